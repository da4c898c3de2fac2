-- `listing::files::list_file` meets its contract. Assumes nothing.
use mathlib.Core.Path.{ap, sym, ◌∙◌}
use native.Mathlib.Omega.{arith}
use Rattle.rules.specs.State.{absent, marked}
use Rattle.tables.specs.Meaning.{state_meant}
use Rattle.tables.specs.Packed.{unpack}
use Rattle.listing.proofs.LineTexts.{file_as, live_file}
use Rattle.listing.proofs.Writing.{put_as, put_none}
use Rattle.listing.proofs.files.list_file.Goals as goal

pub returns-in-Absent : goal.returns-in-Absent
unfolding state_meant
returns-in-Absent c =
    let a = c.args in
    (put_as (file_as (unpack a.t.now) a.f a.s absent (sym c.state_at-l.ensures ∙ ap state_meant c.in-Absent.is)) (put_none a.w.now), omega arith)

pub returns-in-Own : goal.returns-in-Own
returns-in-Own c =
    let a = c.args in
    (put_as (live_file (unpack a.t.now) a.f a.s c.state_at-l.result c.in-Own.is c.state_at-l.ensures) c.list_live.ensures.0, omega arith)

pub returns-in-Marked : goal.returns-in-Marked
unfolding state_meant
returns-in-Marked c =
    let a = c.args in
    (put_as (file_as (unpack a.t.now) a.f a.s marked (sym c.state_at-l.ensures ∙ ap state_meant c.in-Marked.is)) c.put_file.ensures.0, omega arith)
