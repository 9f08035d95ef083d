-- The maker of names: what it answers for every input, and what it leaves in what was lent. "Made names go into a second lent text with pairs of their own, in binding order and without gaps." Assumes nothing.
use Rattle.std.specs.Prelude.{ℕ, ◌*◌, ◌/◌, ◌≡◌, Bool, cond, ◌&&◌, List, ◌++◌, length, take, drop, leb, Result, Ok, Err}
use Rattle.names.specs.Bytes.{bytes_of}
use Rattle.names.specs.Laid.{joined, pairs_from}
use Rattle.names.specs.Answered.{if_accepted}
use Rattle.base_text.specs.Refusals.{unless, front_of}
use Rattle.base_text.specs.declared.Refusal.{Refusal}
use Rattle.base_text.specs.declared.Refusal.TheVariants.{NoRoom}
use Rattle.candidates.specs.MadeNames.{made_names}
use Rattle.candidates.specs.Faults.{first_fault}
use Rattle.candidates.specs.declared.Checked.{Checked}
use Rattle.made_names.specs.declared.Made.{Made}

-- so many pairs and bytes
abbrev pub counts : (pairs bytes : ℕ) → Made
counts pairs bytes = record { pairs = pairs; bytes = bytes }

-- The counts of an answer, of pairs and of bytes; its number and place are base text's. "Every refusal has zero counts".
abbrev pub pair_count : Result Made Refusal → ℕ
pair_count answer = if_accepted (λ made. made.pairs) answer

abbrev pub byte_count : Result Made Refusal → ℕ
byte_count answer = if_accepted (λ made. made.bytes) answer

-- not 9: "where made text or pairs have no room". A pair has 8 bytes
abbrev pub fits : (pair_room text_room : ℕ) (made : List (List ℕ)) → Bool
fits pair_room text_room made = leb (length made) (pair_room / 8) && leb (length (joined made)) text_room

abbrev pub fitted : (pair_room text_room : ℕ) (made : List (List ℕ)) → Result Made Refusal
fitted pair_room text_room made = cond (fits pair_room text_room made) (Ok (counts (length made) (length (joined made)))) (Err NoRoom)

-- the answer, with so many bytes lent for pairs and for text: "base text's 1 and 4, with no binding too, then 11 or 10 at the first binding that meets one; 9 .. tested last"
unfoldable pub named : (bindings names text : List ℕ) (pair_room text_room : ℕ) → Result Made Refusal
named bindings names text pair_room text_room =
    unless (front_of bindings names text) (unless (first_fault bindings names text) (fitted pair_room text_room (made_names bindings names text)))

-- What an answer leaves in what was lent: the counted pairs and bytes at the front, all else as it was.
pub record Makes (answer expected : Result Made Refusal) (made : List (List ℕ)) (pairs pairs' text text' : List ℕ) : Type 0 where
  pub right : answer ≡ expected
  pub pairs_left : pairs' ≡ take (8 * pair_count answer) (bytes_of (pairs_from 0 made)) ++ drop (8 * pair_count answer) pairs
  pub text_left : text' ≡ take (byte_count answer) (joined made) ++ drop (byte_count answer) text

-- The same of a script that 1, 4, 11 and 10 leave.
abbrev pub MakesAll : (checked : Checked) (answer : Result Made Refusal) (pairs pairs' text text' : List ℕ) → Type 0
MakesAll checked answer pairs pairs' text text' =
    let made = made_names checked.script.bindings.now checked.script.names.now checked.script.text.now in
    Makes answer (fitted (length pairs) (length text) made) made pairs pairs' text text'
