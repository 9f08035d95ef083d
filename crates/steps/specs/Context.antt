-- The same steps over a context instead of a path: what is known of a path, carried inward by value. Code follows these; `steps-same` says that they are the steps. Assumes nothing.
use Rattle.std.specs.Prelude.{List, [], ℕ, ◌+◌, Bool, true, false, cond, not, ◌&&◌, ◌||◌, eqb}
use Rattle.grammar.specs.Kinds.{Super, Function}
use Rattle.forest.specs.Forest.{Rows, Rows.none, Rows.node, size}
use Rattle.steps.specs.Mode.{Switches, bit, enabled, async_only, moved_function, moved_arrow}
use Rattle.steps.specs.Paths.{Step, Step.along, Step.in_params, Step.in_body, Step.in_arrow, Step.in_value, Step.in_static}
use Rattle.steps.specs.ArrowToFunction.{dress}
use Rattle.steps.specs.Slots.{free, of_method, dropped}
use Rattle.steps.specs.Naming.{Names}
use Rattle.steps.specs.Acts.{Ctx, ctx_of, Turn, by, Act, act}
use Rattle.steps.specs.Bindings.{Binding, closes, closed, meet, leave}
use Rattle.steps.specs.TopInsertion.{top}
use Rattle.steps.specs.Walk.{Place, build}
use Rattle.steps.specs.Steps.{Result}

-- one step inward: modules 3, 4 and 5 at once
unfoldable pub enter : Switches → Step → Ctx → Ctx
enter w along c = c
enter w (in_params r a m) c = record { takes_this = false; this_at = r; takes_super = cond m (moved_function w a) c.takes_super; super_at = cond m r c.super_at; takes_arguments = c.takes_arguments; arguments_at = r }
enter w (in_body r a m) c = record { takes_this = moved_function w a && m; this_at = r; takes_super = cond m (moved_function w a) c.takes_super; super_at = cond m r c.super_at; takes_arguments = moved_function w a && m; arguments_at = r }
enter w (in_arrow a) c = record { takes_this = cond (async_only w && not (moved_arrow w a)) c.takes_this true; this_at = c.this_at; takes_super = async_only w && moved_arrow w a || c.takes_super; super_at = c.super_at; takes_arguments = moved_arrow w a || c.takes_arguments; arguments_at = c.arguments_at }
enter w (in_value r) c = record { takes_this = false; this_at = c.this_at; takes_super = c.takes_super; super_at = c.super_at; takes_arguments = c.takes_arguments; arguments_at = c.arguments_at }
enter w (in_static r) c = record { takes_this = false; this_at = r; takes_super = c.takes_super; super_at = r; takes_arguments = c.takes_arguments; arguments_at = c.arguments_at }

-- at Program
abbrev pub start : Ctx
start = record { takes_this = false; this_at = 0; takes_super = false; super_at = 0; takes_arguments = false; arguments_at = 0 }

-- where a row is, by its context
pub record Spot : Type 0 where
  pub ctx : Ctx
  pub slot : ℕ

abbrev pub spot : Ctx → ℕ → Spot
spot c sl = record { ctx = c; slot = sl }

abbrev pub spot_of : Switches → Place → Spot
spot_of w q = spot (ctx_of w q.path) q.slot

abbrev pub into : Switches → Spot → Turn → Spot
into w q t = spot (enter w t.step q.ctx) t.slot

unfoldable pub leaves_c : Names → Switches → Spot → Spot → ℕ → Rows → Bool
leaves_c N w q q' o none = false
leaves_c N w q q' o (node k a n i s) =
    let A : Act = act N w false q.ctx q.slot o k a n i in
    eqb k Super && not (eqb q.slot dropped)
    || not (eqb k Function) && leaves_c N w (into w q A.one) (into w q A.more) (o + 1) i
    || leaves_c N w q' q' (o + 1 + size i) s

unfoldable pub late_c : Names → Switches → Spot → (o k a : ℕ) → Rows → Bool
late_c N w q o k a i =
    eqb k Function && bit 4 a
    && leaves_c N w (into w q (by (in_params o a (eqb q.slot of_method)) free)) (into w q (by (in_body o a (eqb q.slot of_method)) free)) (o + 1) i

unfoldable pub act_c : Names → Switches → Spot → (o k a n : ℕ) → Rows → Act
act_c N w q o k a n i = act N w (late_c N w q o k a i) q.ctx q.slot o k a n i

unfoldable pub collect_c : Names → Switches → Spot → Spot → ℕ → Rows → List Binding → List Binding
collect_c N w q q' o none bs = bs
collect_c N w q q' o (node k a n i s) bs =
    let A : Act = act_c N w q o k a n i in
    collect_c N w q' q' (o + 1 + size i) s
    (closed (closes q.slot k) (enter w A.more.step q.ctx).this_at
    (leave N q.ctx A.op
    (collect_c N w (into w q A.one) (into w q A.more) (o + 1) i (meet N A.op bs))))

unfoldable pub emit_c : Names → Switches → List Binding → Spot → Spot → ℕ → Rows → Rows
emit_c N w bs q q' o none = none
emit_c N w bs q q' o (node k a n i s) =
    let A : Act = act_c N w q o k a n i in
    dress q.slot
    (build N bs q.ctx A.op
    (top N bs q.slot k (enter w A.more.step q.ctx).this_at
    (emit_c N w bs (into w q A.one) (into w q A.more) (o + 1) i)))
    (emit_c N w bs q' q' (o + 1 + size i) s)

-- the whole conversion, as code meets it
unfoldable pub made_c : Names → Switches → Rows → List Binding
made_c N w t = collect_c N w (spot start free) (spot start free) 0 t []

unfoldable pub steps_c : Names → Switches → Rows → Result
steps_c N w t =
    cond (enabled w || async_only w)
    (record { rows = emit_c N w (made_c N w t) (spot start free) (spot start free) 0 t; bindings = made_c N w t })
    (record { rows = t; bindings = [] })
