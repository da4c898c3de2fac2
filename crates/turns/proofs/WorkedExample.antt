-- The worked example of document 01, "The session program", by computing the definitions: from its input to its whole output. Assumes nothing.
use mathlib.Core.List.{List, ◌∷◌, []}
use mathlib.Core.Path.{refl, ◌≡◌}
use Prim.Native.Nat.{ℕ}
use Rattle.base.specs.Count.{count}
use Rattle.base.specs.Search.{first_free, search_from}
use Rattle.base.specs.Tabulate.{tab}
use Rattle.base.specs.Update.{upd}
use Rattle.packing.specs.Words.{get_word}
use Rattle.rules.specs.Calls.{accepted, created, formatted, made, result_of, step, worked}
use Rattle.rules.specs.Numbers.{conditions, lowest, number_of}
use Rattle.rules.specs.Reading.{dependent, depends_on, needs, reaches, resolve, size_by_reading, some_unmapped, walk}
use Rattle.rules.specs.Rules.{change, copy, count_in, each, enter, enter_as, extra_pages, from, give, give_all, give_page, holes, mark, mark_down, own_need, page_of, put_entry, reserve, reserve_as, resize, settle, settle_as, settle_file, supply, take_own, touched, write_file}
use Rattle.rules.specs.Sets.{append_set, link_behind, link_last, root_alone}
use Rattle.rules.specs.State.{chain, children_of}
use Rattle.rules.specs.Storage.{free_blocks, overlay, take_block}
use Rattle.decoding.specs.Decoding.{call_fields, request, request_of, unless}
use Rattle.listing.specs.Listing.{call_line, end_line, ext_end, ext_line, extents, file_line, file_text, file_texts, in_turn, list_set, listing, set_line, set_text}
use Rattle.turns.specs.Session.{output, output_from, turn}
use Rattle.listing.specs.Text.{decimal, digits}

-- `1000000000000000 2000000004004100 5001000000000000 20000258000A4200`
abbrev pub example_input : List ℕ
example_input =
    16 ∷ 0 ∷ 0 ∷ 0 ∷ 0 ∷ 0 ∷ 0 ∷ 0
    ∷ 32 ∷ 0 ∷ 0 ∷ 0 ∷ 4 ∷ 0 ∷ 65 ∷ 0
    ∷ 80 ∷ 1 ∷ 0 ∷ 0 ∷ 0 ∷ 0 ∷ 0 ∷ 0
    ∷ 32 ∷ 0 ∷ 2 ∷ 88 ∷ 0 ∷ 10 ∷ 66 ∷ 0 ∷ []

-- "Whole output"
abbrev pub example_output : List ℕ
example_output =
    -- call 1 1 0 0 0 0
    99 ∷ 97 ∷ 108 ∷ 108 ∷ 32 ∷ 49 ∷ 32 ∷ 49 ∷ 32 ∷ 48 ∷ 32 ∷ 48 ∷ 32 ∷ 48 ∷ 32 ∷ 48 ∷ 10
    -- call 2 2 0 2 0 0
    ∷ 99 ∷ 97 ∷ 108 ∷ 108 ∷ 32 ∷ 50 ∷ 32 ∷ 50 ∷ 32 ∷ 48 ∷ 32 ∷ 50 ∷ 32 ∷ 48 ∷ 32 ∷ 48 ∷ 10
    -- call 3 5 0 0 0 0
    ∷ 99 ∷ 97 ∷ 108 ∷ 108 ∷ 32 ∷ 51 ∷ 32 ∷ 53 ∷ 32 ∷ 48 ∷ 32 ∷ 48 ∷ 32 ∷ 48 ∷ 32 ∷ 48 ∷ 10
    -- call 4 2 0 0 1 0
    ∷ 99 ∷ 97 ∷ 108 ∷ 108 ∷ 32 ∷ 52 ∷ 32 ∷ 50 ∷ 32 ∷ 48 ∷ 32 ∷ 48 ∷ 32 ∷ 49 ∷ 32 ∷ 48 ∷ 10
    -- set 0 0 8 1
    ∷ 115 ∷ 101 ∷ 116 ∷ 32 ∷ 48 ∷ 32 ∷ 48 ∷ 32 ∷ 56 ∷ 32 ∷ 49 ∷ 10
    -- file 0 0 1 1024
    ∷ 102 ∷ 105 ∷ 108 ∷ 101 ∷ 32 ∷ 48 ∷ 32 ∷ 48 ∷ 32 ∷ 49 ∷ 32 ∷ 49 ∷ 48 ∷ 50 ∷ 52 ∷ 10
    -- ext 0 0
    ∷ 101 ∷ 120 ∷ 116 ∷ 32 ∷ 48 ∷ 32 ∷ 48 ∷ 10
    -- ext 2 -1
    ∷ 101 ∷ 120 ∷ 116 ∷ 32 ∷ 50 ∷ 32 ∷ 45 ∷ 49 ∷ 10
    -- ext 64 -1
    ∷ 101 ∷ 120 ∷ 116 ∷ 32 ∷ 54 ∷ 52 ∷ 32 ∷ 45 ∷ 49 ∷ 10
    -- set 1 1 0 0
    ∷ 115 ∷ 101 ∷ 116 ∷ 32 ∷ 49 ∷ 32 ∷ 49 ∷ 32 ∷ 48 ∷ 32 ∷ 48 ∷ 10
    -- file 1 0 1 1024
    ∷ 102 ∷ 105 ∷ 108 ∷ 101 ∷ 32 ∷ 49 ∷ 32 ∷ 48 ∷ 32 ∷ 49 ∷ 32 ∷ 49 ∷ 48 ∷ 50 ∷ 52 ∷ 10
    -- ext 0 -1
    ∷ 101 ∷ 120 ∷ 116 ∷ 32 ∷ 48 ∷ 32 ∷ 45 ∷ 49 ∷ 10
    -- ext 1 2
    ∷ 101 ∷ 120 ∷ 116 ∷ 32 ∷ 49 ∷ 32 ∷ 50 ∷ 10
    -- ext 2 -1
    ∷ 101 ∷ 120 ∷ 116 ∷ 32 ∷ 50 ∷ 32 ∷ 45 ∷ 49 ∷ 10
    -- ext 64 -1
    ∷ 101 ∷ 120 ∷ 116 ∷ 32 ∷ 54 ∷ 52 ∷ 32 ∷ 45 ∷ 49 ∷ 10
    ∷ []

-- the definitions that are computed
unfoldable computed : Unit {0}
unfolding output output_from turn request request_of call_fields unless get_word call_line end_line set_line file_line ext_line ext_end extents file_text file_texts set_text in_turn list_set listing decimal digits step result_of accepted number_of lowest conditions formatted created made worked write_file change settle settle_file settle_as each reserve reserve_as take_own take_block first_free search_from free_blocks count count_in give_all give_page extra_pages give supply mark copy enter enter_as resize page_of own_need touched from resolve size_by_reading walk needs dependent some_unmapped depends_on reaches mark_down holes put_entry overlay upd append_set link_last link_behind root_alone children_of chain tab
computed = tt

pub worked_example : output example_input ≡ example_output
unfolding computed
worked_example = refl
