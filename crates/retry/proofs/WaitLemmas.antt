-- waits: what a policy's ranges give, and what the turns that are left make of a wait
use Rattle.std.proofs.Common.{◌≡◌, ℕ, suc, ◌+◌, ◌-◌, ◌*◌, ◌<◌, ◌≤◌, min, IsTrue, ap, sym, ◌∙◌, arith}
use Rattle.std.specs.Fn.{iterate}
use Rattle.std.proofs.lemmas.Grind.{common_steps}
use Rattle.std.proofs.lemmas.Bool.Decides.{nat_tests}
use Rattle.wf_event.specs.declared.payloads.PolicyFields.{PolicyFields}
use Rattle.wf_event.specs.RetryPolicies.{good_policy}
use Rattle.service_model.specs.Retry.{maximum_of, next_wait, wait}
use Rattle.service_model.proofs.WaitLemmas.{stays}

-- the ranges of a policy's numbers
pub record InRange (p : PolicyFields) : Type 0 where
  pub coefficient_most : p.coefficient ≤ 100000
  pub longest : maximum_of p ≤ 1000000000000

-- what a policy's check tells
pub in_range : (p : PolicyFields) → IsTrue (good_policy p) → InRange p
in_range p good = record {
  coefficient_most = grind (arith, nat_tests, common_steps);
  longest = grind (arith, nat_tests, common_steps);
}

-- a product fits its type
pub product_small : (w c m : ℕ) → w ≤ m → m ≤ 1000000000000 → c ≤ 100000 → w * c ≤ 100000000000000000
product_small w c m short long few = grind arith

-- before the first turn all of them are left
pub begun : (p : PolicyFields) (m w k : ℕ) → m ≡ maximum_of p → w ≡ min m p.initial → iterate (next_wait p) (k - 1) w ≡ wait p k
unfolding wait
begun p m w k longest is = ap (iterate (next_wait p) (k - 1)) (is ∙ ap (λ l. min l p.initial) longest)

-- one turn fewer is left
pub next : (p : PolicyFields) (t n w v : ℕ) → t < n → v ≡ next_wait p w → iterate (next_wait p) (n - t) w ≡ wait p n → iterate (next_wait p) (n - (t + 1)) v ≡ wait p n
next p t n w v more is left = ap (iterate (next_wait p) (n - (t + 1))) is ∙ ap (λ k. iterate (next_wait p) k w) turns ∙ left
  where
    turns : suc (n - (t + 1)) ≡ n - t
    turns = omega arith

-- a wait that is followed by itself is that of all attempts to come
pub still : (p : PolicyFields) (t n w : ℕ) → next_wait p w ≡ w → iterate (next_wait p) (n - t) w ≡ wait p n → w ≡ wait p n
still p t n w same left = sym (stays (next_wait p) (n - t) w same) ∙ left

-- after the last turn none is left
pub done : (p : PolicyFields) (t n w : ℕ) → n ≤ t → iterate (next_wait p) (n - t) w ≡ wait p n → w ≡ wait p n
done p t n w all left = ap (λ k. iterate (next_wait p) k w) none ∙ left
  where
    none : 0 ≡ n - t
    none = omega arith
