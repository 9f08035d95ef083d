-- "then 11 or 10 at the first binding that meets one". Assumes nothing.
use Rattle.std.specs.Prelude.{ℕ, zero, suc, ◌+◌, ◌≡◌, List, Result, Ok}
use Rattle.base_text.specs.Bindings.{records_in}
use Rattle.base_text.specs.Refusals.{unless, front_of, fault_of}
use Rattle.base_text.specs.declared.Refusal.{Refusal}

-- the first fault of n bindings from number b on
unfoldable pub fault_from : (bindings names text : List ℕ) (b n : ℕ) → Result (Unit {0}) Refusal
fault_from bindings names text b zero = Ok tt
fault_from bindings names text b (suc n) = unless (fault_of b bindings names text) (fault_from bindings names text (b + 1) n)

abbrev pub first_fault : (bindings names text : List ℕ) → Result (Unit {0}) Refusal
first_fault bindings names text = fault_from bindings names text 1 (records_in bindings)

-- a table and bindings that 1, 4, 11 and 10 leave
pub record Sound (bindings names text : List ℕ) : Type 0 where
  pub front : front_of bindings names text ≡ Ok tt
  pub faults : first_fault bindings names text ≡ Ok tt
