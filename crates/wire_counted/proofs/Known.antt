-- Known bytes, over several calls.
use Rattle.std.proofs.Common.{◌≡◌, ℕ, ◌+◌, ◌-◌, length, List, [], ◌++◌, take, drop, Option, Some, None, refl, sym, ap, ◌∙◌, append_assoc, arith}
use Rattle.std.proofs.lemmas.List.{append-nil, take_all, length-drop, take-append-drop}
use Rattle.std.proofs.Math.Seq.{take-add}
use Rattle.std.specs.Io.KnownBytes.{Keeps, Appends, Consumes}
use Rattle.wire_counted.specs.Written.{AppendsBeginning}

-- ---- what a writer holds

pub Appends-none : (a : Option (List ℕ)) → Appends a a []
Appends-none None = tt
Appends-none (Some x) = sym (append-nil x)

pub Appends-then : (a b c : Option (List ℕ)) (x y : List ℕ) → Appends a b x → Appends b c y → Appends a c (x ++ y)
Appends-then None b c x y p q = tt
Appends-then (Some l) None c x y p q = absurd p
Appends-then (Some l) (Some m) None x y p q = absurd q
Appends-then (Some l) (Some m) (Some n) x y p q = q ∙ ap (λ k. k ++ y) p ∙ append_assoc l x y

pub Appends-keeps : (a b c : Option (List ℕ)) (x : List ℕ) → Appends a b x → Keeps b c → Appends a c x
Appends-keeps None b c x p q = tt
Appends-keeps (Some l) None c x p q = absurd p
Appends-keeps (Some l) (Some m) None x p q = absurd q
Appends-keeps (Some l) (Some m) (Some n) x p q = q ∙ p

-- one write more
pub write_step : (a b c : Option (List ℕ)) (bs : List ℕ) (done n new : ℕ) → new ≡ done + n → Appends a b (take done bs)
    → Appends b c (take n (take (length bs - done) (drop done bs))) → Appends a c (take new bs)
write_step a b c bs done n new e p q =
    let all : take (length bs - done) (drop done bs) ≡ drop done bs = take_all (length bs - done) (drop done bs) (omega (arith, length-drop done bs)) in
    rw (e, take-add done n bs) (Appends-then a b c (take done bs) (take n (drop done bs)) p (rw all at q))

-- ---- a beginning

pub beginning_of_nothing : (a : Option (List ℕ)) (bytes : List ℕ) → AppendsBeginning a a bytes
beginning_of_nothing a bytes = record { beginning = []; rest = bytes; parts = refl; written = Appends-none a }

pub beginning_of_all : (a b : Option (List ℕ)) (bytes : List ℕ) → Appends a b bytes → AppendsBeginning a b bytes
beginning_of_all a b bytes p = record { beginning = bytes; rest = []; parts = sym (append-nil bytes); written = p }

pub beginning_of_some : (a b : Option (List ℕ)) (bytes : List ℕ) (n : ℕ) → Appends a b (take n bytes) → AppendsBeginning a b bytes
beginning_of_some a b bytes n p = record { beginning = take n bytes; rest = drop n bytes; parts = sym (take-append-drop n bytes); written = p }

-- a beginning of some bytes is one of more bytes
pub beginning_of_more : (a b : Option (List ℕ)) (bytes more : List ℕ) → AppendsBeginning a b bytes → AppendsBeginning a b (bytes ++ more)
beginning_of_more a b bytes more h = record {
  beginning = h.beginning;
  rest = h.rest ++ more;
  parts = ap (λ k. k ++ more) h.parts ∙ append_assoc h.beginning h.rest more;
  written = h.written;
}

-- some bytes, and then a beginning of others
pub beginning_behind : (a b c : Option (List ℕ)) (first bytes : List ℕ) → Appends a b first → AppendsBeginning b c bytes → AppendsBeginning a c (first ++ bytes)
beginning_behind a b c first bytes p h = record {
  beginning = first ++ h.beginning;
  rest = h.rest;
  parts = ap (λ k. first ++ k) h.parts ∙ sym (append_assoc first h.beginning h.rest);
  written = Appends-then a b c first h.beginning p h.written;
}

-- ---- what a reader has left

pub Consumes-none : (a : Option (List ℕ)) → Consumes a a []
Consumes-none None = tt
Consumes-none (Some x) = refl

pub Consumes-then : (a b c : Option (List ℕ)) (x y : List ℕ) → Consumes a b x → Consumes b c y → Consumes a c (x ++ y)
Consumes-then None b c x y p q = tt
Consumes-then (Some l) None c x y p q = absurd p
Consumes-then (Some l) (Some m) None x y p q = absurd q
Consumes-then (Some l) (Some m) (Some n) x y p q = p ∙ ap (λ k. x ++ k) q ∙ sym (append_assoc x y n)

pub Consumes-keeps : (a b c : Option (List ℕ)) (x : List ℕ) → Consumes a b x → Keeps b c → Consumes a c x
Consumes-keeps None b c x p q = tt
Consumes-keeps (Some l) None c x p q = absurd p
Consumes-keeps (Some l) (Some m) None x p q = absurd q
Consumes-keeps (Some l) (Some m) (Some n) x p q = p ∙ ap (λ k. x ++ k) (sym q)
