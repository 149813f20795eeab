-- MEANING: a resumed service, beside one that was opened from the whole record
use Rattle.std.specs.Prelude.{◌≡◌, ℕ, List, ◌++◌}
use Rattle.service.specs.Contents.{setup_of}
use Rattle.service.specs.Headline.{content_of}
use Rattle.service.specs.Services.{settings_of}
use Rattle.service.specs.ServiceViews.{Service}
use Rattle.service.specs.Starting.{start_of}
use Rattle.service_model.specs.Service.{Entry, replay}

-- Where a shard started at the content that a record leaves, what it has made since leaves the content that both leave, one
-- after the other: so all that is told of its steps (`Headline`) is what would be told after the whole record
abbrev pub ResumedGoOn : Type 0
ResumedGoOn = (x : Service) (shard : ℕ) (before since : List Entry) → start_of x shard ≡ replay (setup_of (settings_of x) shard) before
    → content_of x shard since ≡ replay (setup_of (settings_of x) shard) (before ++ since)
