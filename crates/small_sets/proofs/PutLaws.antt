-- What was put into a buffer, piece after piece: each piece begins where the one before it ended.
use mathlib.Core.Path.{◌≡◌, refl, sym, ap, ◌∙◌}
use mathlib.Core.List.{List, [], ◌++◌}
use Prim.Native.Nat.{ℕ, ◌+◌, ◌≤◌, ◌<◌}
use native.Mathlib.Omega.{arith}
use lib.ListN.{length, take, drop}
use Rattle.std.proofs.lemmas.List.{append_assoc, append-nil, length-append, length-take-le, take-append-drop, take_at, drop_at, drop-drop}
use Rattle.bitstream.specs.Outcome.{left, value}
use Rattle.bitstream.specs.Escapes.{put_bytes}
use Rattle.aps.proofs.UnitWrites.{copied}
use Rattle.small_sets.specs.Inner.{Put}

-- nothing
pub put-none : (p : ℕ) (x : List ℕ) → Put [] p p x x
put-none p x = record {
  place = omega arith;
  bytes = λ h. sym (ap (λ l. l ++ drop p x) (append-nil (take p x)) ∙ take-append-drop p x);
  size = refl;
}

-- what there was no room for
pub put-short : (l : List ℕ) (p q : ℕ) (x : List ℕ) → q ≡ p + length l → length x < q → Put l p q x x
put-short l p q x e h = record { place = e; bytes = λ r. absurd (omega arith); size = refl }

-- one after the other
module _ (a b : List ℕ) (p q r : ℕ) (x y z : List ℕ) (f : Put a p q x y) (g : Put b q r y z) where
  end : r ≡ p + length (a ++ b)
  end = let e = length-append a b in let f' = f.place in let g' = g.place in omega arith

  module _ (h : r ≤ length x) where
    first : y ≡ (take p x ++ a) ++ drop q x
    first = f.bytes (let g' = g.place in omega arith)

    from-q : length (take p x ++ a) ≡ q
    from-q = let e = length-append (take p x) a in let f' = f.place in let g' = g.place in let t = length-take-le p x (omega arith) in omega arith

    before-q : take q y ≡ take p x ++ a
    before-q = ap (take q) first ∙ take_at (take p x ++ a) (drop q x) q from-q

    behind-q : drop q y ≡ drop q x
    behind-q = ap (drop q) first ∙ drop_at (take p x ++ a) (drop q x) q from-q

    behind-r : drop r y ≡ drop r x
    behind-r =
        ap (λ n. drop n y) g.place ∙ sym (drop-drop (length b) q y) ∙ ap (drop (length b)) behind-q
        ∙ drop-drop (length b) q x ∙ ap (λ n. drop n x) (sym g.place)

    both : z ≡ (take p x ++ (a ++ b)) ++ drop r x
    both =
        g.bytes (let s = f.size in omega arith) ∙ ap (λ l. (l ++ b) ++ drop r y) before-q ∙ ap (λ d. ((take p x ++ a) ++ b) ++ d) behind-r
        ∙ ap (λ l. l ++ drop r x) (append_assoc (take p x) a b)

  pub put-both : Put (a ++ b) p r x z
  put-both = record { place = end; bytes = both; size = g.size ∙ f.size }

-- from the start on, into a buffer with room
pub put-start : (l : List ℕ) (q : ℕ) (x y : List ℕ) → Put l 0 q x y → length l ≤ length x → (value y q ≡ put_bytes x l) × (y ≡ left x (put_bytes x l))
put-start l q x y f h =
    let p = f.place in
    let e : q ≡ length l = omega arith in
    let b : y ≡ l ++ drop (length l) x = f.bytes (omega arith) ∙ ap (λ n. l ++ drop n x) e in
    rw (b, e) (copied x l h)
