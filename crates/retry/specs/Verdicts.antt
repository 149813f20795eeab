-- INNER: how an attempt's end is read as that of the definitions
use Rattle.std.specs.Prelude.{option_copied}
use Rattle.retry.specs.declared.verdict.Ended.{Ended}
use Rattle.retry.specs.declared.verdict.Ended.TheVariants.{Timeout, Failure}
use Rattle.service_model.specs.Retry.{Ending, TimedOutAttempt, FailedAttempt}

-- how the attempt ended
abbrev pub ending_of : Ended → Ending
ending_of Timeout = TimedOutAttempt
ending_of (Failure error_type non_retryable) = FailedAttempt (option_copied error_type) non_retryable
