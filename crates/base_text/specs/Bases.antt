-- Module 2, Base text. Assumes nothing.
use Rattle.std.specs.Prelude.{ℕ, ◌*◌, ◌≡◌, Bool, true, cond, ◌&&◌, not, List, [], ◌∷◌, ◌++◌, length, drop, leb, ltb, eqb, Option, Some, None, is_some}
use Rattle.std.specs.Option.{ForSome}
use Rattle.names.specs.Names.{bytes_of, arguments_bytes, bad_name}
use Rattle.letters.specs.Characters.{first_width, first_code}
use Rattle.letters.specs.Letters as letters
use Rattle.letters.specs.Letters.{capital, known}
use Rattle.base_text.specs.declared.head.Head.{Head}

-- "`this`, `arguments`, `prop`, `value`; for accessors `superprop_get` or `superprop_set`", by the binding's use
unfoldable pub base_of : ℕ → List ℕ
base_of role =
    cond (eqb role 1) (0x74 ∷ 0x68 ∷ 0x69 ∷ 0x73 ∷ [])
    (cond (eqb role 2) arguments_bytes
    (cond (eqb role 3) (0x73 ∷ 0x75 ∷ 0x70 ∷ 0x65 ∷ 0x72 ∷ 0x70 ∷ 0x72 ∷ 0x6F ∷ 0x70 ∷ 0x5F ∷ 0x67 ∷ 0x65 ∷ 0x74 ∷ [])
    (cond (eqb role 4) (0x73 ∷ 0x75 ∷ 0x70 ∷ 0x65 ∷ 0x72 ∷ 0x70 ∷ 0x72 ∷ 0x6F ∷ 0x70 ∷ 0x5F ∷ 0x73 ∷ 0x65 ∷ 0x74 ∷ [])
    (cond (eqb role 5) (0x70 ∷ 0x72 ∷ 0x6F ∷ 0x70 ∷ [])
    (0x76 ∷ 0x61 ∷ 0x6C ∷ 0x75 ∷ 0x65 ∷ [])))))

-- "and the property with its first character upper-cased"
unfoldable pub with_property : (base property : List ℕ) → List ℕ
with_property base property = base ++ (capital (first_code property) ++ drop (first_width property) property)

-- "An access with no property gives the bare base."
abbrev pub text_for : (base names text : List ℕ) → Option ℕ → List ℕ
text_for base names text (Some k) = with_property base (bytes_of names text k)
text_for base names text None = base

-- a property that names a good name, or none
abbrev pub property_ok : (names text : List ℕ) → Option ℕ → Bool
property_ok names text (Some k) = ltb 0 k && leb (8 * k) (length names) && not (bad_name names text k)
property_ok names text None = true

-- Of the code: the width of a text's first character, and the bytes that stand for it, if there are any.
pub record HeadOf (s : List ℕ) (head : Option Head) : Type 0 where
  pub told : is_some head ≡ known (first_code s)
  pub holds : ForSome head (λ h. (h.width ≡ first_width s) × (letters.bytes_of h.capital ≡ capital (first_code s)))
