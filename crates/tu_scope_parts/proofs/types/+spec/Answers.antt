use Rattle.tu_tree.specs.TypeViews.{base_view}
use Rattle.tu_scope_parts.proofs.Turns.{arm, none, of, same, turned, ◌▸◌}
use Rattle.tu_scope_parts.proofs.types.+spec.Goals as goal

pub walk_base-returns-in-Int : goal.walk_base-returns-in-Int
walk_base-returns-in-Int t c = arm base_view c.base.view_is c.in-Int.is none

pub walk_base-returns-in-Boolean : goal.walk_base-returns-in-Boolean
walk_base-returns-in-Boolean t c = arm base_view c.base.view_is c.in-Boolean.is none

pub walk_base-returns-in_ok-walk_size-in-String : goal.walk_base-returns-in_ok-walk_size-in-String
walk_base-returns-in_ok-walk_size-in-String t c = arm base_view c.base.view_is c.in-String.is (of c.in_ok-walk_size-in-String.ensures)

pub walk_base-returns-in_ok-walk_range-in-Range : goal.walk_base-returns-in_ok-walk_range-in-Range
walk_base-returns-in_ok-walk_range-in-Range t c = arm base_view c.base.view_is c.in-Range.is (of c.in_ok-walk_range-in-Range.ensures)

pub walk_base-returns-in_ok-walk_range-in-Set : goal.walk_base-returns-in_ok-walk_range-in-Set
walk_base-returns-in_ok-walk_range-in-Set t c = arm base_view c.base.view_is c.in-Set.is (of c.in_ok-walk_range-in-Set.ensures)

pub walk_base-returns-in_ok-use_name-in-Pointer : goal.walk_base-returns-in_ok-use_name-in-Pointer
walk_base-returns-in_ok-use_name-in-Pointer t c = arm base_view c.base.view_is c.in-Pointer.is c.in_ok-use_name-in-Pointer.ensures

pub walk_base-returns-in_ok-close-in-Enum : goal.walk_base-returns-in_ok-close-in-Enum
walk_base-returns-in_ok-close-in-Enum t c =
    arm base_view c.base.view_is c.in-Enum.is (c.in_ok-open-in-Enum.ensures ▸ c.in_ok-list_names-in-Enum.ensures ▸ c.in_ok-close-in-Enum.ensures)

pub walk_base-returns-in_ok-close-in-Record : goal.walk_base-returns-in_ok-close-in-Record
walk_base-returns-in_ok-close-in-Record t c =
    let first = same c.get.ensures c.in_ok-walk_field-in-Record.ensures in
    let more = of (turned c.loop-x.invariant c.loop-x-test.false c.as_slice-x-items.ensures) in
    arm base_view c.base.view_is c.in-Record.is (c.in_ok-open-in-Record.ensures ▸ first ▸ more ▸ c.in_ok-close-in-Record.ensures)

pub walk_base-returns-in_ok-close-in-Union : goal.walk_base-returns-in_ok-close-in-Union
walk_base-returns-in_ok-close-in-Union t c =
    let variants = of (turned c.loop-x-2.invariant c.loop-x-2-test.false c.as_slice-x-items-in-Union.ensures) in
    arm base_view c.base.view_is c.in-Union.is
    (c.in_ok-open-in-Union.ensures ▸ c.in_ok-list_any_name-in-Union.ensures ▸ of c.in_ok-walk_range-in-Union.ensures ▸ variants ▸ c.in_ok-close-in-Union.ensures)
