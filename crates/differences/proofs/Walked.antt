-- The tables of docs/DIFFERENCES.md, computed. Assumes nothing.
use mathlib.Core.List.{List, [], ◌∷◌, ◌++◌}
use mathlib.Core.Path.{refl}
use Rattle.names.specs.Words.{words}
use Rattle.names.specs.Utf8.{seq_of, utf8_from, utf8}
use Rattle.names.specs.First.{first}
use Rattle.names.specs.Names.{bytes_of, same_bytes, same_name, arguments_bytes, is_arguments, bad_name, first_bad_name}
use Rattle.names.specs.Bytes as laid-words
use Rattle.names.specs.Laid.{joined, pairs_from}
use Rattle.grammar.specs.Grammar.{place_in_class, place_in_function, place_of}
use Rattle.forest.specs.Forest.{size, flat, tree, rows_at}
use Rattle.forest.specs.Faults.{kids, kids_of, early_fault, late_fault, fault_of, fault_from, first_fault}
use Rattle.forest.specs.Told.{told_in, told_by, depth_at, first_deep}
use Rattle.rows.specs.Refusals.{first_made, checked}
use Rattle.steps.specs.Joining.{join}
use Rattle.steps.specs.Mode.{bit, enabled, async_only, moved_function, moved_arrow}
use Rattle.steps.specs.AncestorRule.{captured, this_frame}
use Rattle.steps.specs.Super.{super_yes, super_frame, first_super, first_access, first_name, first_inside}
use Rattle.steps.specs.Arguments.{arguments_yes, arguments_frame}
use Rattle.steps.specs.ArrowToFunction.{dress}
use Rattle.steps.specs.Naming.{same_as, named_arguments}
use Rattle.steps.specs.Acts.{kind_of, act_of, act}
use Rattle.steps.specs.Bindings.{is, number_from, number, note, closes, params_of, closed, meet, leave}
use Rattle.steps.specs.AfterSuper.{super_call, is_direct, is_met, scan_inner, scan_next, assignment, after_super}
use Rattle.steps.specs.TopInsertion.{arguments_decl, this_decl, head_n, tail_n, param_numbers, access_row, accessor, accessor_decls, var_first, frame_top, top}
use Rattle.steps.specs.Walk.{leaves, late, act_at, collect, build, emit}
use Rattle.steps.specs.Steps.{made, steps}
use Rattle.steps.specs.Refusals.{seek, allows, sixes, holds, past_first, value_of, sevens, eights, six, seven, eight}
use Rattle.steps.specs.Outcome.{records, within, outcome}
use Rattle.steps.specs.Tables.{sheet}
use Rattle.differences.specs.Differences.{first_twelve, from_thirteen, differences}
use Rattle.steps.specs.Tables.{Plot, Held}

-- two lists that are held are held as one
held_both : (ps qs : List Plot) → Held ps → Held qs → Held (ps ++ qs)
held_both [] qs held also = also
held_both (p ∷ ps) qs (this, held) also = (this, held_both ps qs held also)

-- the tables of docs/DIFFERENCES.md, in two parts, since the steps of one declaration are limited
pub first_twelve_held : Held first_twelve
unfolding words seq_of utf8_from utf8 first bytes_of same_bytes same_name arguments_bytes is_arguments bad_name first_bad_name place_in_class
    place_in_function place_of size flat tree rows_at kids kids_of early_fault late_fault fault_of fault_from first_fault told_in told_by depth_at
    first_deep first_made checked bit enabled async_only moved_function moved_arrow captured this_frame super_yes super_frame first_super first_access
    first_name first_inside arguments_yes arguments_frame dress same_as named_arguments kind_of act_of act is number_from number note closes params_of
    closed meet leave super_call is_direct is_met scan_inner scan_next assignment after_super arguments_decl this_decl head_n tail_n param_numbers
    access_row accessor accessor_decls var_first frame_top top join leaves late act_at collect build emit made steps seek allows sixes holds
    past_first value_of sevens eights six seven eight records within outcome sheet laid-words.le32 laid-words.bytes_of pairs_from joined first_twelve
first_twelve_held = (refl, (refl, (refl, (refl, (refl, (refl, (refl, (refl, (refl, (refl, (refl, (refl, (refl, (refl, (refl, (refl, tt))))))))))))))))

pub from_thirteen_held : Held from_thirteen
unfolding words seq_of utf8_from utf8 first bytes_of same_bytes same_name arguments_bytes is_arguments bad_name first_bad_name place_in_class
    place_in_function place_of size flat tree rows_at kids kids_of early_fault late_fault fault_of fault_from first_fault told_in told_by depth_at
    first_deep first_made checked bit enabled async_only moved_function moved_arrow captured this_frame super_yes super_frame first_super first_access
    first_name first_inside arguments_yes arguments_frame dress same_as named_arguments kind_of act_of act is number_from number note closes params_of
    closed meet leave super_call is_direct is_met scan_inner scan_next assignment after_super arguments_decl this_decl head_n tail_n param_numbers
    access_row accessor accessor_decls var_first frame_top top join leaves late act_at collect build emit made steps seek allows sixes holds
    past_first value_of sevens eights six seven eight records within outcome sheet laid-words.le32 laid-words.bytes_of pairs_from joined from_thirteen
from_thirteen_held = (refl, (refl, (refl, (refl, (refl, (refl, (refl, (refl, (refl, (refl, (refl, (refl, (refl, (refl, (refl, (refl, (refl, (refl, (refl, (refl, (refl, (refl, (refl, (refl, (refl, (refl, (refl, tt)))))))))))))))))))))))))))

pub differences_held : Held differences
unfolding differences
differences_held = held_both first_twelve from_thirteen first_twelve_held from_thirteen_held
