-- The elements of one bucket, as the tables have them, and what is found among them. Assumes nothing.
use Rattle.std.specs.Prelude.{◌≡◌, List, [], ◌∷◌, ℕ, zero, suc, Bool, cond, eqb, get_or}

-- the elements of a bucket by their numbers, from element e, or none where that is 0, to the first; so many at most
unfoldable pub along : (befores : List ℕ) (most e : ℕ) → List ℕ
along befores zero e = []
along befores (suc n) e = cond (eqb e 0) [] (e ∷ along befores n (get_or befores e 0))

-- those of bucket h: along a bucket the numbers fall, so that it has no more elements than the number of its last
abbrev pub members : (lasts befores : List ℕ) (h : ℕ) → List ℕ
members lasts befores h = along befores (get_or lasts h 0) (get_or lasts h 0)

-- each of some elements is so
abbrev pub Each : (ℕ → Type 0) → List ℕ → Type 0
Each P [] = Unit {0}
Each P (e ∷ es) = P e × Each P es

-- r is the last of some elements of which the test holds that answers as Answers says; `found` where there is none
abbrev pub Last : (Answers : ℕ → Bool → Type 0) → List ℕ → (found r : ℕ) → Type 0
Last Answers [] found r = r ≡ found
Last Answers (e ∷ es) found r = (t : Bool) × Answers e t × Last Answers es (cond t e found) r
