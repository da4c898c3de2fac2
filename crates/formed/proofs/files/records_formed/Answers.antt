-- `formed::files::records_formed` meets its contract. The loop's invariant: the files of the numbers below f have passed. Assumes nothing.
use mathlib.Core.Path.{subst, sym}
use native.Mathlib.Omega.{arith}
use Rattle.base.specs.Count.{all_none}
use Rattle.entrycheck.proofs.Lists.{all_are, filled}
use Rattle.formed.proofs.PlaceDigits.{places_are}
use Rattle.formed.proofs.Whole.{numbers_done, numbers_next, numbers_refused}
use Rattle.formed.specs.Files.{Falling}
use Rattle.tables.proofs.Parts.{sets_front}
use Rattle.formed.proofs.files.records_formed.Goals as goal

pub put_places-requires : goal.put_places-requires
unfolding filled
put_places-requires c = let p = c.requires in (omega (arith, p.0), all_are 8 _, p.4.most, p.5)

pub loop-f-init : goal.loop-f-init
loop-f-init c = all_none _

pub number_formed-requires : goal.number_formed-requires
number_formed-requires c =
    let p = c.requires in
    let e = sets_front c.args.front.now c.args.files.now p.0 in
    (p.0, p.1, subst Falling (sym e) p.2, p.3, places_are _ _ e _ _ _ _ p.5 c.put_places.ensures, omega arith, p.4)

pub returns-then-not-number_formed : goal.returns-then-not-number_formed
returns-then-not-number_formed c =
    numbers_refused _ _ _ c.loop-f.invariant (omega arith) c.if-not-number_formed.ensures

pub loop-f-preserved : goal.loop-f-preserved
loop-f-preserved c = numbers_next _ _ _ c.loop-f.invariant c.if-not-number_formed.ensures

pub returns : goal.returns
returns c = numbers_done _ _ _ c.loop-f.invariant (omega arith)
