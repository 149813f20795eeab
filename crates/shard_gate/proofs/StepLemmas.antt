-- a step of an object that answers and changes as the sequential service does is a step of that service
use Rattle.std.proofs.Common.{◌≡◌, ℕ, refl, subst}
use Rattle.std.specs.Prelude.{Result, Ok, Err, IfOk}
use Rattle.gate.specs.declared.view.View.{View}
use Rattle.gate.specs.Passes.{Stepped, SteppedAt, Waited}

module _ {Q C R : Type 0} where
  -- what is kept says more
  kept-as : (after : C → Q → C) (answer : C → Q → R) (keeps keeps' : C → C → Type 0) → ((c d : C) → keeps c d → keeps' c d)
      → (v w : View Q C) (s : ℕ) (q : Q) (r : R) → Stepped after answer keeps v w s q r → Stepped after answer keeps' v w s q r
  kept-as after answer keeps keeps' more v w s q r h = record {
    same = h.same;
    front = h.front;
    extends = h.extends;
    last = h.last;
    adds = h.adds;
    based = h.based;
    own = h.own;
    given = h.given;
    others = h.others;
    turns = h.turns;
    start = h.start;
    opened = h.opened;
    reply = h.reply;
    kept = more _ _ h.kept;
  }

  -- the same by other names
  pub stepped-as : (after after' : C → Q → C) (answer answer' : C → Q → R) (keeps keeps' : C → C → Type 0) (v v' w : View Q C) → after ≡ after' → answer ≡ answer' → ((c d : C) → keeps c d → keeps' c d) → v ≡ v'
      → (s : ℕ) (q : Q) (r : R) → Stepped after answer keeps v w s q r → Stepped after' answer' keeps' v' w s q r
  stepped-as after after' answer answer' keeps keeps' v v' w goes answers more same s q r h =
      let by_after = subst (λ (a : C → Q → C). Stepped a answer keeps v w s q r) goes h in
      let by_answer = subst (λ (a : C → Q → R). Stepped after' a keeps v w s q r) answers by_after in
      kept-as after' answer' keeps keeps' more v' w s q r (subst (λ (u : View Q C). Stepped after' answer' keeps u w s q r) same by_answer)

  -- also after turns in which another pass was there
  pub stepped-at-as : (after after' : C → Q → C) (answer answer' : C → Q → R) (keeps keeps' : C → C → Type 0) (v v' w : View Q C) → after ≡ after' → answer ≡ answer' → ((c d : C) → keeps c d → keeps' c d) → v ≡ v'
      → (s : ℕ) (q : Q) (r : R) → SteppedAt after answer keeps v w s q r → SteppedAt after' answer' keeps' v' w s q r
  stepped-at-as after after' answer answer' keeps keeps' v v' w goes answers more same s q r (u, waited, step) =
      (u, subst (λ (x : View Q C). Waited x u s) same waited, stepped-as after after' answer answer' keeps keeps' u u w goes answers more refl s q r step)

-- what holds of the value of an Ok
pub weaker : {T E : Type 0} (r : Result T E) (P Q : T → Type 0) → ((x : T) → P x → Q x) → IfOk r P → IfOk r Q
weaker (Ok x) P Q f h = f x h
weaker (Err e) P Q f h = tt
