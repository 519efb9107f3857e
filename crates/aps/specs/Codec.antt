-- A piece of syntax, read and written: `read` gives the value at a bit and the bit after it, or a refusal's number; `emit` gives the bits of a
-- value; `ok` says which values the writer takes. The laws between them are in proofs/.
use Rattle.std.specs.Prelude.{Bool, true, false, cond, ◌&&◌, List, [], ◌∷◌, ◌++◌, ℕ, zero, suc, ◌^◌, ltb}
use Rattle.bitstream.specs.Outcome.{Outcome, value, refused, ◌then◌}
use Rattle.bitstream.specs.Bits.{field_bits}
use Rattle.bitstream.specs.Fields.{read_u, lacks, read_ue, ue_asked, ue_bits}

pub record Codec (A : Type 0) : Type 0 where
  pub read : List ℕ → ℕ → Outcome A
  pub emit : A → List ℕ
  pub ok : A → Bool

-- a field that would pass the input's end is refused with 1
unfoldable pub whole : Bool → Outcome ℕ → Outcome ℕ
whole lacking o = o then λ v q. cond lacking (refused 1) (value v q)

-- u(n)
unfoldable pub u : ℕ → Codec ℕ
u n = record { read = λ s p. whole (lacks s p n) (read_u s p n); emit = λ v. field_bits v n; ok = λ v. ltb v (2 ^ n) }

-- ue(v)
unfoldable pub ue : Codec ℕ
ue = record { read = λ s p. whole (lacks s p (ue_asked s p)) (read_ue s p); emit = ue_bits; ok = λ v. ltb v 4294967295 }

module _ {A B : Type 0} where
  -- c, then what its value says
  infixr 5 ◌▷◌
  unfoldable pub ◌▷◌ : Codec A → (A → Codec B) → Codec (A × B)
  c ▷ k =
      record {
        read = λ s p. c.read s p then λ a q. (k a).read s q then λ b r. value (a, b) r;
        emit = λ x. c.emit x.0 ++ (k x.0).emit x.1;
        ok = λ x. c.ok x.0 && (k x.0).ok x.1;
      }

  -- the same values in another shape, those that pass the test
  unfoldable pub via : (A → B) → (B → A) → (B → Bool) → Codec A → Codec B
  via to from test c =
      record {
        read = λ s p. c.read s p then λ a q. value (to a) q;
        emit = λ b. c.emit (from b);
        ok = λ b. c.ok (from b) && test b;
      }

module _ {A : Type 0} where
  -- c, and its value judged
  unfoldable pub judged : (A → Bool) → Codec A → Codec A
  judged test c =
      record {
        read = λ s p. c.read s p then λ a q. cond (test a) (value a q) (refused 2);
        emit = c.emit;
        ok = λ a. c.ok a && test a;
      }

-- a value that is inferred where nothing is sent, and the test for it
pub record Inferred (A : Type 0) : Type 0 where
  pub default : A
  pub is : A → Bool

module _ {A : Type 0} where
  -- c where the flag is set, else the inferred value
  unfoldable pub when : Bool → Inferred A → Codec A → Codec A
  when b d c =
      record {
        read = λ s p. cond b (c.read s p) (value d.default p);
        emit = λ a. cond b (c.emit a) [];
        ok = λ a. cond b (c.ok a) (d.is a);
      }

  abbrev pub nil_ok : List A → Bool
  nil_ok [] = true
  nil_ok (x ∷ xs) = false

  abbrev pub cons_ok : (A → Bool) → (List A → Bool) → List A → Bool
  cons_ok f g [] = false
  cons_ok f g (x ∷ xs) = f x && g xs

  abbrev pub cons_emit : (A → List ℕ) → (List A → List ℕ) → List A → List ℕ
  cons_emit f g [] = []
  cons_emit f g (x ∷ xs) = f x ++ g xs

  -- n values, the one at index i by k i, from index i on
  unfoldable pub each_from : ℕ → ℕ → (ℕ → Codec A) → Codec (List A)
  each_from i zero k = record { read = λ s p. value [] p; emit = λ xs. []; ok = nil_ok }
  each_from i (suc n) k =
      record {
        read = λ s p. (k i).read s p then λ x q. (each_from (suc i) n k).read s q then λ xs r. value (x ∷ xs) r;
        emit = cons_emit (k i).emit (each_from (suc i) n k).emit;
        ok = cons_ok (k i).ok (each_from (suc i) n k).ok;
      }

  abbrev pub each : ℕ → (ℕ → Codec A) → Codec (List A)
  each n k = each_from 0 n k

  -- c where the test holds, else refused with 2
  unfoldable pub provided : Bool → Codec A → Codec A
  provided b c =
      record {
        read = λ s p. cond b (c.read s p) (refused 2);
        emit = c.emit;
        ok = λ a. b && c.ok a;
      }

  -- refused with n
  unfoldable pub never : ℕ → Codec A
  never n = record { read = λ s p. refused n; emit = λ a. []; ok = λ a. false }
