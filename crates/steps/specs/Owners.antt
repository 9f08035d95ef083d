-- "Pairing for demand 3": who owns each `this` before and after. Assumes nothing.
use Rattle.std.specs.Prelude.{◌≡◌, List, [], ◌∷◌, ◌++◌, ℕ, ◌+◌, Bool, true, false, cond, ◌&&◌, ◌||◌, eqb}
use Rattle.grammar.specs.Kinds.{Program, Declarator, This, Super, Ident, Assign, Arrow, Function, Field, StaticBlock, Target}
use Rattle.forest.specs.Forest.{Rows, Rows.none, Rows.node}
use Rattle.steps.specs.Mode.{Switches, bit}
use Rattle.steps.specs.Bindings.{Binding, Binding.bind}
use Rattle.steps.specs.Steps.{Result}

-- one of some numbers
abbrev pub among : ℕ → List ℕ → Bool
among m [] = false
among m (x ∷ xs) = eqb m x || among m xs

-- "Of kinds 0, 16, 17, 22, 23 together, the result's n-th row counts as the input's n-th": rows are told by their ordinal among them.
unfoldable pub ranked : ℕ → ℕ
ranked k = cond (among k (Program ∷ Arrow ∷ Function ∷ Field ∷ StaticBlock ∷ [])) 1 0

unfoldable pub count : Rows → ℕ
count none = 0
count (node k a n i s) = ranked k + count i + count s

-- "Owner: outward, past Arrows, the nearest Function, StaticBlock, Field value or Program." The owner of a row's first child and of its later ones, by ordinal: w is the row's own
-- owner, c its ordinal if it has one.
unfoldable pub own_one : ℕ → ℕ → ℕ → ℕ → ℕ
own_one k a w c = cond (among k (Program ∷ Function ∷ StaticBlock ∷ [])) c (cond (eqb k Field) (cond (bit 1 a) w c) w)

unfoldable pub own_more : ℕ → ℕ → ℕ → ℕ → ℕ
own_more k a w c = cond (among k (Program ∷ Function ∷ Field ∷ StaticBlock ∷ [])) c w

-- a This with its owner, or a captured Ident with its binding
pub data Read : Type 0 where
  this_of : (owner : ℕ) → Read
  name_of : (binding : ℕ) → Read

-- "This or captured Ident (attr 1, use 1)": `made` says which bindings have use 1
unfoldable pub here : (made : ℕ → Bool) → ℕ → ℕ → ℕ → ℕ → List Read
here made w k a n = cond (eqb k This) (this_of w ∷ []) (cond (eqb k Ident) (cond (eqb a 1 && made n) (name_of n ∷ []) []) [])

unfoldable pub is_ident : ℕ → Bool
is_ident k = eqb k Ident

unfoldable pub is_target : ℕ → Bool
is_target k = eqb k Target

unfoldable pub made_ident : (made : ℕ → Bool) → Rows → Bool
made_ident made none = false
made_ident made (node k a n i s) = is_ident k && (eqb a 1 && made n)

unfoldable pub made_target : (made : ℕ → Bool) → Rows → Bool
made_target made none = false
made_target made (node k a n i s) = is_target k && made_ident made i

-- "leaving out those in an attr 1 Declarator whose binding has use 1 or in an Assign to such an Ident"
unfoldable pub omitted : (made : ℕ → Bool) → ℕ → ℕ → ℕ → Rows → Bool
omitted made k a n i = cond (eqb k Declarator) (eqb a 1 && made n) (cond (eqb k Assign) (made_target made i) false)

-- "by row order": w owns the first row, v the later ones; c is the next ordinal
unfoldable pub reads : (made : ℕ → Bool) → (w v c : ℕ) → Rows → List Read
reads made w v c none = []
reads made w v c (node k a n i s) =
    here made w k a n
    ++ (cond (omitted made k a n i) [] (reads made (own_one k a w c) (own_more k a w c) (c + ranked k) i)
    ++ reads made v v (c + ranked k + count i) s)

-- "A captured Ident's owner is that of its Declarator's initialiser, a This; exactly one Declarator names its binding." The initialisers of the attr 1 Declarators that name binding b:
pub data Init : Type 0 where
  this_by : (owner : ℕ) → Init
  another : Init

unfoldable pub init_kind : ℕ → ℕ → Init
init_kind w k = cond (eqb k This) (this_by w) another

unfoldable pub init_of : ℕ → Rows → Init
init_of w none = another
init_of w (node k a n i s) = init_kind w k

unfoldable pub decl_here : (b w : ℕ) → ℕ → ℕ → ℕ → Rows → List Init
decl_here b w k a n i = cond (eqb k Declarator) (cond (eqb a 1 && eqb n b) (init_of w i ∷ []) []) []

unfoldable pub declared : (b w v c : ℕ) → Rows → List Init
declared b w v c none = []
declared b w v c (node k a n i s) =
    decl_here b w k a n i
    ++ (declared b (own_one k a w c) (own_more k a w c) (c + ranked k) i
    ++ declared b v v (c + ranked k + count i) s)

-- the ordinals of the Arrows whose attr passes a test
unfoldable pub arrow_here : (t : ℕ → Bool) → ℕ → ℕ → ℕ → List ℕ
arrow_here t c k a = cond (eqb k Arrow) (cond (t a) (c ∷ []) []) []

unfoldable pub arrows_of : (t : ℕ → Bool) → ℕ → Rows → List ℕ
arrows_of t c none = []
arrows_of t c (node k a n i s) = arrow_here t c k a ++ (arrows_of t (c + ranked k) i ++ arrows_of t (c + ranked k + count i) s)

-- The premises. Where a row stands in its owner: in a Function by its Params or by its Body.
pub data Home : Type 0 where
  at_top at_params at_body at_value at_static : Home

-- "An Arrow is in a Field's value if that is its owner, in an ordinary function's parameters if it stands in its owner's Params." There is none such.
unfoldable pub ArrowFits : Home → Type 0
ArrowFits at_top = Unit {0}
ArrowFits at_params = ⊥
ArrowFits at_body = Unit {0}
ArrowFits at_value = ⊥
ArrowFits at_static = Unit {0}

unfoldable pub home_one : ℕ → ℕ → Home → Home
home_one k a h = cond (eqb k Program) at_top (cond (eqb k Function) at_params (cond (eqb k StaticBlock) at_static (cond (eqb k Field) (cond (bit 1 a) h at_value) h)))

unfoldable pub home_more : ℕ → ℕ → Home → Home
home_more k a h = cond (eqb k Program) at_top (cond (eqb k Function) at_body (cond (eqb k StaticBlock) at_static (cond (eqb k Field) at_value h)))

-- "A constructor mentions `super` if it is some Super's nearest Function." Is the nearest Function a constructor:
unfoldable pub builder : ℕ → ℕ → Bool → Bool
builder k a b = cond (eqb k Function) (bit 4 a) b

-- what is asked of a row: an Arrow stands where it may, a Super's nearest Function is no constructor
unfoldable pub Fits : Home → Bool → ℕ → Type 0
Fits h b k = cond (eqb k Arrow) (ArrowFits h) (cond (eqb k Super) (b ≡ false) (Unit {0}))

-- the premises of demand 3, of every row
unfoldable pub Calm : Home → Home → Bool → Rows → Type 0
Calm h v b none = Unit {0}
Calm h v b (node k a n i s) = Fits h b k × Calm (home_one k a h) (home_more k a h) (builder k a b) i × Calm v v b s

-- the bindings of use 1
unfoldable pub record_at : ℕ → List Binding → ℕ → Binding
record_at c [] m = bind 0 0 0
record_at c (b ∷ bs) m = cond (eqb c m) b (record_at (c + 1) bs m)

unfoldable pub use_is1 : Binding → Bool
use_is1 (bind u x f) = eqb u 1

unfoldable pub captured_this : List Binding → ℕ → Bool
captured_this bs m = use_is1 (record_at 1 bs m)

-- "the n-th This of the table with the n-th This or captured Ident of the result .. none is left over", and both have the same owner: a captured Ident's, by the one Declarator
pub data Paired (D : ℕ → List Init) : List Read → List Read → Type 0 where
  done : Paired D [] []
  alike : {x : ℕ} {xs ys : List Read} → Paired D xs ys → Paired D (this_of x ∷ xs) (this_of x ∷ ys)
  named : {x b : ℕ} {xs ys : List Read} → D b ≡ this_by x ∷ [] → Paired D xs ys → Paired D (this_of x ∷ xs) (name_of b ∷ ys)

-- demand 3 of a table and its result: "The arrows of its result .. are exactly the table's async ones. Each `this` of the table is paired one to one .. and both have the same owner"
pub record OwnersKept (t : Rows) (r : Result) : Type 0 where
  pub counted : count t ≡ count r.rows
  pub async_arrows : arrows_of (bit 1) 0 t ≡ arrows_of (λ a. true) 0 r.rows
  pub paired : Paired (λ b. declared b 0 0 0 r.rows) (reads (λ b. false) 0 0 0 t) (reads (captured_this r.bindings) 0 0 0 r.rows)

-- "arrows on and both async switches off"
abbrev pub arrows_on : Switches
arrows_on = record { arrows = true; async = false; asyncgen = false }
