-- What the entries answer in numbers, and what they leave in the bytes lent. "An entry's promise covers every number returned and every word lent, refusals too". Assumes nothing.
use Rattle.std.specs.Prelude.{ℕ, ◌*◌, ◌≡◌, Bool, not, List, ◌++◌, eqb, take, drop, Result}
use Rattle.steps.specs.Mode.{Switches, switches, bit}
use Rattle.base_text.specs.Refusals.{answer_number, answer_place, count_of}
use Rattle.base_text.specs.declared.Refusal.{Refusal}
use Rattle.names.specs.Bytes.{bytes_of}
use Rattle.names.specs.Laid.{joined, pairs_from}
use Rattle.made_names.specs.Naming.{pair_count, byte_count}
use Rattle.made_names.specs.declared.Made.{Made}
use Rattle.lookup.specs.Parts.{number_of, spells, by_attr, start_in, bytes_in}
use Rattle.thawcopper.specs.declared.Spelled.{Spelled}
use Rattle.thawcopper.specs.declared.Named.{Named}

-- The numbers of an answer of base text, and of the maker of names.
abbrev pub TellsText : Result ℕ Refusal → Spelled → Type 0
TellsText answer s = (s.refusal ≡ answer_number answer) × (s.place ≡ answer_place answer) × (s.bytes ≡ count_of answer)

abbrev pub TellsNames : Result Made Refusal → Named → Type 0
TellsNames answer n = (n.refusal ≡ answer_number answer) × (n.place ≡ answer_place answer) × (n.pairs ≡ pair_count answer) × (n.bytes ≡ byte_count answer)

-- Base text: the numbers of the answer, and the bytes lent before and after. The counted bytes of the text stand at the front, all else is as it was.
pub record BaseTextAnswered (s : Spelled) (answer : Result ℕ Refusal) (text before after : List ℕ) : Type 0 where
  pub told : TellsText answer s
  pub written : after ≡ take (count_of answer) text ++ drop (count_of answer) before

-- The maker of names: the numbers of the answer, and what was lent before and after. The counted pairs and bytes of the made names stand at the front, all else is as it was.
pub record NamesAnswered (n : Named) (answer : Result Made Refusal) (made : List (List ℕ)) (lent lent' out out' : List ℕ) : Type 0 where
  pub told : TellsNames answer n
  pub pairs_written : lent' ≡ take (8 * pair_count answer) (bytes_of (pairs_from 0 made)) ++ drop (8 * pair_count answer) lent
  pub text_written : out' ≡ take (byte_count answer) (joined made) ++ drop (byte_count answer) out

-- The spelling of an Ident: 18 or 0, and which part it is, of the script's text (attr 0) or of the made text (attr 1).
pub record PartAnswered (attr number : ℕ) (names text made_pairs made_text : List ℕ) (refusal start bytes : ℕ) : Type 0 where
  pub refused : refusal ≡ number_of (spells attr number names text made_pairs made_text)
  pub started : start ≡ by_attr attr (start_in names text number) (start_in made_pairs made_text number) 0
  pub counted : bytes ≡ by_attr attr (bytes_in names text number) (bytes_in made_pairs made_text number) 0

-- Convert: a switch is on where it is not 0. What it promises is `Converts` of answer/specs/Converting.antt, in these numbers.
abbrev pub on : ℕ → Bool
on x = not (eqb x 0)

abbrev pub switches_from : (arrow async_to_generator async_generator_functions : ℕ) → Switches
switches_from arrow async_to_generator async_generator_functions = switches (on arrow) (on async_to_generator) (on async_generator_functions)

-- Convert with options, which are bits of one word: 1 arrow, 2 async-to-generator, 4 async generators, 8 tablet. A bit without a name is not looked at.
abbrev pub switches_in : (options : ℕ) → Switches
switches_in options = switches (bit 1 options) (bit 2 options) (bit 4 options)

abbrev pub on_tablet : (options : ℕ) → Bool
on_tablet options = bit 8 options
