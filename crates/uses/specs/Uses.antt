-- Module 9, the first word of a record: "use (1 this, 2 arguments, 3 get, 4 set, 5 prop, 6 value)". Assumes nothing.
use Rattle.std.specs.Prelude.{◌≡◌, ℕ, false, ◌&&◌, leb, Result, MatchResult}
use Rattle.uses.specs.declared.Use.{Use}
use Rattle.uses.specs.declared.Use.TheVariants.{This, Arguments, Get, Set, Prop, Value}
use Rattle.uses.specs.declared.Capture.{Capture}
use Rattle.uses.specs.declared.Capture.TheVariants as capture
use Rattle.uses.specs.declared.Access.{Access}
use Rattle.uses.specs.declared.Access.TheVariants as access
use Rattle.uses.specs.declared.UnknownUse.{UnknownUse}

abbrev pub use_number : Use → ℕ
use_number This = 1
use_number Arguments = 2
use_number Get = 3
use_number Set = 4
use_number Prop = 5
use_number Value = 6

abbrev pub capture_number : Capture → ℕ
capture_number capture.This = 1
capture_number capture.Arguments = 2

abbrev pub access_number : Access → ℕ
access_number access.Get = 3
access_number access.Set = 4

-- Of the code: the use with this number, or an error where there is none.
abbrev pub Decodes : ℕ → Result Use UnknownUse → Type 0
Decodes number decoded = MatchResult decoded (λ usage. use_number usage ≡ number) (λ _. (leb 1 number && leb number 6) ≡ false)
