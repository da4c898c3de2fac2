-- `copying::giving::give_page` meets its contract. Assumes nothing.
use mathlib.Core.Path.{sym, ◌∙◌}
use Rattle.tables.specs.Meaning.{entry_meant}
use Rattle.copying.specs.Work.{handed_by}
use Rattle.copying.proofs.Given.{resolve_below}
use Rattle.copying.proofs.Handed.{heir_own, map_left, page_given, shown_below}
use Rattle.copying.proofs.giving.give_page.Goals as goal

pub give_chain-w-requires : goal.give_chain-w-requires
give_chain-w-requires c =
    (c.requires.0, c.requires.2, resolve_below c.requires.0 c.args.s c.args.page.0 c.requires.4, c.in_turn-r.ensures.few)

pub hand_over-requires : goal.hand_over-requires
hand_over-requires c =
    let a = c.args in
    let re = c.give_chain-w.ensures.ready in
    let left = map_left _ a.s a.page.0 a.child (entry_meant a.e) c.is_handed-over.result c.in_turn-r.result c.requires.0 c.requires.3 c.requires.4 c.in_turn-r.ensures c.give_chain-w.ensures a.page.0 in
    let own = heir_own a.t.now a.f a.s a.page.0 a.child (entry_meant a.e) c.is_handed-over.result (handed_by a.how) c.in_turn-r.result c.is_handed-over.ensures c.in_turn-r.ensures c.requires.4 in
    (re.packed, re.file, c.requires.1, c.requires.2, (λ d i. ((own d i).0, (own d i).1 ∙ sym left)), shown_below a.s a.page.0 c.requires.0 c.requires.4)

pub returns : goal.returns
returns c =
    let a = c.args in
    page_given _ a.s a.page.0 a.child (entry_meant a.e) c.is_handed-over.result c.in_turn-r.result c.requires.0 c.requires.3 c.requires.4 c.in_turn-r.ensures c.give_chain-w.ensures a.how
    c.is_handed-over.ensures c.is_touched.ensures c.hand_over.ensures
