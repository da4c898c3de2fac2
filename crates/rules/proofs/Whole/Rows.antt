-- Rows M1 to M12 and the rows of groups, by computing the definitions of the calls. Assumes nothing.
use mathlib.Core.Bool.{true}
use mathlib.Core.List.{List}
use mathlib.Core.Path.{refl, ◌≡◌}
use Prim.Native.Nat.{◌+◌, ◌<◌, ℕ, ◌≤◌}
use native.Mathlib.Omega.{arith}
use lib.ListN.{length}
use Rattle.base.specs.Count.{count}
use Rattle.base.specs.Search.{first_free, search_from}
use Rattle.base.specs.Update.{upd}
use Rattle.rules.proofs.Whole.Accepted.{accepts_write}
use Rattle.rules.specs.Calls.{accepted, created, formatted, made, read_looks, removed, result_of, step, worked}
use Rattle.rules.specs.Numbers.{View, conditions, lowest, number_of, write}
use Rattle.rules.specs.Reading.{dependent, depends_on, looks, looks_up, needs, reaches, resolve, size_by_reading, some_unmapped, walk}
use Rattle.rules.specs.Rows.{RowsClaim, with_children, group_rows, last_answer, marking_rows, rows, scattered}
use Rattle.rules.specs.Rules.{change, copy, count_in, cut_pages, delete_as, delete_file, drop_page, dropped_pages, each, enter, enter_as, erase_file, extra_pages, free_entry, free_map, free_sets, from, give, give_all, give_page, hand, hand_over, holes, kept_pages, mark, mark_down, own_need, page_of, part_pages, put_entry, reserve, reserve_as, resize, settle, settle_as, settle_file, sum_in, supply, take_own, touched, truncate_as, truncate_file, truncate_need, write_file}
use Rattle.rules.specs.Sets.{append_set, link_behind, link_last, root_alone, unlink_set}
use Rattle.rules.specs.State.{chain, children_of, live}
use Rattle.rules.specs.Storage.{free_blocks, overlay, take_block, zero_from}

-- the definitions that are computed
unfoldable pub computed : Unit {0}
unfolding rows group_rows scattered marking_rows with_children last_answer read_looks sum_in looks looks_up step result_of accepted number_of lowest conditions formatted created made removed worked write_file truncate_file truncate_as delete_file delete_as erase_file change settle settle_file settle_as each reserve reserve_as take_own take_block first_free search_from free_blocks count count_in give_all give_page hand hand_over part_pages extra_pages give supply mark free_sets copy enter enter_as resize drop_page free_entry free_map page_of own_need truncate_need touched cut_pages kept_pages dropped_pages from resolve size_by_reading walk needs dependent some_unmapped depends_on reaches mark_down holes put_entry overlay zero_from upd append_set link_last link_behind unlink_set root_alone children_of chain
computed = tt

-- M1 for any write that ends at 32,768: whatever the store, with room enough it is accepted
any_length : (v : View) (g s f off : ℕ) (bs : List ℕ) → v.formed ≡ true → s < 8 → v.tree.used s ≡ true → f < 16 → v.tree.writeable s ≡ true
    → live (v.state f s) ≡ true → off + length bs ≡ 32768 → v.write_need s f off (length bs) ≤ v.free → number_of v (write g s f off bs) ≡ 0
any_length v g s f off bs formed low used file wr al end room =
    accepts_write v formed g s f off bs (record { set = record { low = low; used = used }; file = file; writeable = wr; alive = al; end_in = omega arith; room = room })

-- THEOREM
pub rows_hold : RowsClaim
unfolding computed
rows_hold = record {
  table = (refl, (refl, (refl, (refl, (refl, (refl, (refl, (refl, (refl, (refl, (refl, (refl, (refl, (refl, (refl, tt)))))))))))))));
  groups = (refl, (refl, (refl, (refl, (refl, (refl, (refl, (refl, (refl, (refl, (refl, (refl, (refl, (refl, (refl, (refl, (refl, (refl, (refl, (refl, (refl, (refl, (refl, (refl, (refl, (refl, (refl, (refl, (refl, (refl, (refl, (refl, (refl, (refl, tt))))))))))))))))))))))))))))))))));
  marking = (refl, (refl, (refl, (refl, (refl, (refl, (refl, (refl, (refl, (refl, (refl, (refl, (refl, (refl, tt))))))))))))));
  m1 = any_length;
}
