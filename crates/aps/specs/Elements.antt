-- The fields that the payloads are made of, and the values inferred where one is not sent.
use Rattle.std.specs.Prelude.{Bool, true, false, cond, not, ◌&&◌, List, [], ◌∷◌, ◌++◌, ℕ, zero, suc, ◌*◌, leb, eqb, ℤ, length, replicate, take, drop}
use Rattle.std.specs.Int.Signed.{le_z}
use Rattle.bitstream.specs.Fields.{se_value, se_code}
use Rattle.aps.specs.Codec.{Codec, u, ue, ◌▷◌, via, judged, Inferred, when}

-- u(1), as a flag
unfoldable pub flag : Codec Bool
flag = via (λ v. not (eqb v 0)) (λ b. cond b 1 0) (λ b. true) (u 1)

-- ue(v) in 0..most
unfoldable pub ue_to : ℕ → Codec ℕ
ue_to most = judged (λ v. leb v most) ue

-- se(v)
unfoldable pub se : Codec ℤ
se = via se_value se_code (λ z. true) ue

-- se(v) in low..high
unfoldable pub se_in : ℤ → ℤ → Codec ℤ
se_in low high = judged (λ z. le_z low z && le_z z high) se

abbrev pub no_flag : Inferred Bool
no_flag = record { default = false; is = not }

abbrev pub no_number : Inferred ℕ
no_number = record { default = 0; is = λ v. eqb v 0 }

abbrev pub no_pair : {A B : Type 0} → Inferred A → Inferred B → Inferred (A × B)
no_pair d e = record { default = (d.default, e.default); is = λ x. d.is x.0 && e.is x.1 }

-- a magnitude, and its sign if it is not 0
unfoldable pub signed : Codec ℕ → Codec (ℕ × Bool)
signed c = c ▷ λ m. when (not (eqb m 0)) no_flag flag

abbrev pub no_signed : Inferred (ℕ × Bool)
no_signed = no_pair no_number no_flag

-- two arrays beside each other, and one of pairs
module _ {A B : Type 0} where
  abbrev pub firsts : List (A × B) → List A
  firsts [] = []
  firsts (x ∷ xs) = x.0 ∷ firsts xs

  abbrev pub seconds : List (A × B) → List B
  seconds [] = []
  seconds (x ∷ xs) = x.1 ∷ seconds xs

  abbrev pub zipped : List A → List B → List (A × B)
  zipped [] bs = []
  zipped (a ∷ l) [] = []
  zipped (a ∷ l) (b ∷ bs) = (a, b) ∷ zipped l bs

  -- an array of pairs, held as two arrays
  unfoldable pub apart : Codec (List (A × B)) → Codec (List A × List B)
  apart = via (λ l. (firsts l, seconds l)) (λ x. zipped x.0 x.1) (λ x. eqb (length x.0) (length x.1))

module _ {A : Type 0} where
  abbrev pub every : (A → Bool) → List A → Bool
  every f [] = true
  every f (x ∷ xs) = f x && every f xs

  -- n inferred values
  abbrev pub no_list : ℕ → Inferred A → Inferred (List A)
  no_list n d = record { default = replicate n d.default; is = λ l. eqb (length l) n && every d.is l }

  -- rows one after the other in a flat array, and the r rows of w entries of one
  abbrev pub joined : List (List A) → List A
  joined [] = []
  joined (l ∷ ls) = l ++ joined ls

  abbrev pub rows_of : ℕ → ℕ → List A → List (List A)
  rows_of zero w l = []
  rows_of (suc r) w l = take w l ∷ rows_of r w (drop w l)

module _ {A B : Type 0} where
  -- r rows of w pairs of entries, held as two flat arrays
  unfoldable pub flat : ℕ → ℕ → Codec (List (List A × List B)) → Codec (List A × List B)
  flat r w =
      via (λ l. (joined (firsts l), joined (seconds l))) (λ x. zipped (rows_of r w x.0) (rows_of r w x.1))
      (λ x. eqb (length x.0) (r * w) && eqb (length x.1) (r * w))
