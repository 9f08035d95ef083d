-- "A made name is an underscore and the base text; if that is taken, the smallest whole number from 2 up that frees it is put behind it." Over lists of bytes. Assumes nothing.
--     let _this = 1; () => this          let _this = 1; var _this2 = this; (function () { return _this2; });
use Rattle.std.specs.Prelude.{ℕ, zero, suc, Bool, false, cond, ◌||◌, List, [], ◌∷◌, ◌++◌, length, ltb}
use Rattle.names.specs.Names.{same_bytes}
use Rattle.decimal.specs.Decimal.{decimal}

-- what is put behind: "The number is printed in decimal, most significant digit first, without a leading zero." 1 stands for no number
unfoldable pub tail_of : ℕ → List ℕ
tail_of n = cond (ltb n 2) [] (decimal n)

-- "an underscore and the base text", and a number behind it
unfoldable pub candidate : (base : List ℕ) (n : ℕ) → List ℕ
candidate base n = 0x5F ∷ (base ++ tail_of n)

-- "Taken means equal to a name of the table or to a made name with a lower number": equal by bytes to one of these
unfoldable pub taken : List (List ℕ) → List ℕ → Bool
taken [] x = false
taken (t ∷ ts) x = same_bytes t x || taken ts x

-- the first number from n on that frees the base; the number before it is fuel
unfoldable pub free_from : List (List ℕ) → (base : List ℕ) → (fuel n : ℕ) → ℕ
free_from ts base zero n = n
free_from ts base (suc f) n = cond (taken ts (candidate base n)) (free_from ts base f (suc n)) n

-- "the smallest whole number from 2 up that frees it", or 1 where none is put behind. So many numbers as there are names taken, and one, are enough (`frees`)
unfoldable pub behind : List (List ℕ) → (base : List ℕ) → ℕ
behind ts base = free_from ts base (length ts) 1

abbrev pub made_name : List (List ℕ) → List ℕ → List ℕ
made_name ts base = candidate base (behind ts base)

-- the made names of some base texts, in order, where the names ts are taken: each one is taken for the later ones
unfoldable pub make_all : List (List ℕ) → (bases : List (List ℕ)) → List (List ℕ)
make_all ts [] = []
make_all ts (b ∷ bs) = made_name ts b ∷ make_all (ts ++ (made_name ts b ∷ [])) bs
