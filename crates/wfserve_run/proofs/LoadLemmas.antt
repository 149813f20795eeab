-- shards that are restored one after another
use Rattle.std.proofs.Common.{◌≡◌, refl, ℕ, zero, suc, ◌+◌, List, [], ◌∷◌, ◌++◌, length, ap, ◌∙◌, sym, subst, arith, Some}
use Rattle.std.specs.Prelude.{slice_get, unwrap_or}
use Rattle.gate.specs.Records.{Each}
use Rattle.service_model_types.specs.declared.content.Content.{Content}
use Rattle.service_model_types.specs.declared.settings.Settings.{Settings}
use Rattle.checkpoints.specs.Checkpoints.{AreCounted}
use Rattle.checkpoints.specs.Restored.{IsRestored}
use Rattle.checkpoints.specs.declared.restored.Restored.{Restored}

some-same : {A : Type 0} (x y : A) → Some x ≡ Some y → x ≡ y
some-same x y e = ap (λ o. unwrap_or o x) e

each-push : {A : Type 0} (P : ℕ → A → Type 0) (xs : List A) (x : A) → Each xs P → P (length xs) x → Each (xs ++ x ∷ []) P
each-push P [] x h last zero y at = subst (P 0) (some-same x y at) last
each-push P [] x h last (suc k) y at = absurd (cc)
each-push P (z ∷ xs) x h last zero y at = h zero y at
each-push P (z ∷ xs) x h last (suc k) y at = each-push (λ j. P (suc j)) xs x (λ j w is. h (suc j) w is) last k y at

longer : {A : Type 0} (xs : List A) (x : A) → length (xs ++ x ∷ []) ≡ length xs + 1
longer [] x = refl
longer (y ∷ xs) x = let h = longer xs x in omega (arith, h)

-- one more of them
pub each-more : {A : Type 0} (P : ℕ → A → Type 0) (xs ys : List A) (x : A) (n : ℕ) → length xs ≡ n → Each xs P → P n x → ys ≡ xs ++ x ∷ [] → (length ys ≡ n + 1) × Each ys P
each-more P xs ys x n count each last is =
    (ap length is ∙ longer xs x ∙ ap (λ m. m + 1) count, subst (λ l. Each l P) (sym is) (each-push P xs x each (subst (λ m. P m x) (sym count) last)))

-- the counts of each are its own
pub each-counted : {S : Type 0} (stands : S → Content → Type 0) (K : Settings) (shards given : List (Restored S)) → Each shards (λ k r. IsRestored stands K k r) → given ≡ shards
    → Each given (λ k r. AreCounted stands r.shard r.counts)
each-counted stands K shards given each is =
    subst (λ l. Each l (λ k r. AreCounted stands r.shard r.counts)) (sym is) (λ k r at. (each k r at).counted)
