-- `formed::parts_formed` meets its contract. Assumes nothing.
use mathlib.Core.Path.{refl}
use Rattle.entrycheck.proofs.Lists.{all_are, filled}
use Rattle.formed.proofs.Whole.{sets_falling, whole_blocks, whole_files, whole_pages, whole_sets, whole_zero}
use Rattle.formed.proofs.parts_formed.Goals as goal

pub first_part-requires : goal.first_part-requires
unfolding filled
first_part-requires c = (c.requires.0, c.requires.1, all_are 128 _, all_are 128 _)

pub returns-in_default : goal.returns-in_default
returns-in_default c = whole_blocks _ _ _ c.requires.0 _ c.in_default.ensures.decided

pub returns-then-not-pages_fit : goal.returns-then-not-pages_fit
returns-then-not-pages_fit c =
    whole_pages _ _ _ c.requires.0 _ c.in-Some.ensures.decided c.if-not-pages_fit.ensures

pub returns-then-not-header_zero : goal.returns-then-not-header_zero
returns-then-not-header_zero c =
    whole_zero _ _ _ c.requires.0 _ c.in-Some.ensures.decided c.if-not-pages_fit.ensures c.if-not-header_zero.ensures

pub returns-then-not-sets_formed : goal.returns-then-not-sets_formed
returns-then-not-sets_formed c =
    whole_sets _ _ _ c.requires.0 _ c.in-Some.ensures.decided c.if-not-pages_fit.ensures c.if-not-header_zero.ensures c.if-not-sets_formed.ensures

pub records_formed-requires : goal.records_formed-requires
records_formed-requires c =
    let p = c.requires in
    (p.0, p.1, sets_falling _ c.if-not-sets_formed.ensures, c.in-Some.ensures.masks refl, c.in-Some.ensures.blank, c.in-Some.ensures.unused)

pub returns : goal.returns
returns c =
    whole_files _ _ _ c.requires.0 _ c.in-Some.ensures.decided c.if-not-pages_fit.ensures c.if-not-header_zero.ensures _ c.if-not-sets_formed.ensures
    c.records_formed.ensures
