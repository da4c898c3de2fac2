-- `formed::files::pass_heads` meets its contract. The loop's invariant: the heads of the sets before set s have passed. Assumes nothing.
use mathlib.Core.Path.{refl, sym}
use native.Mathlib.Omega.{arith}
use Rattle.formed.proofs.HeadRules.{heads_done, heads_next, heads_refused, heads_start}
use Rattle.tables.proofs.Parts.{head_files}
use Rattle.formed.proofs.files.pass_heads.Goals as goal

pub loop-s-init : goal.loop-s-init
loop-s-init c = let p = c.requires in heads_start _ _ _ _ _ p.3 p.4

pub pass_head-requires : goal.pass_head-requires
pass_head-requires c =
    let p = c.requires in
    let k = c.loop-s.invariant in
    (p.1, k.rest_ends _ (omega arith) (omega (arith, p.7.most)), p.6, omega (arith, p.7.most))

pub returns-then-not-pass_head : goal.returns-then-not-pass_head
returns-then-not-pass_head c =
    let a = c.args in
    let p = c.requires in
    heads_refused _ _ _ _ _ _ c.loop-s.invariant p.6 (omega (arith, p.7.most)) _ _ _ (sym (head_files a.front.now a.files.now p.0 _ _)) (p.2 _ (omega (arith, p.7.most))) (p.5 _ (omega (arith, p.7.most))) _ _ _
    c.if-not-pass_head.ensures refl

pub loop-s-preserved : goal.loop-s-preserved
loop-s-preserved c =
    let a = c.args in
    let p = c.requires in
    heads_next _ _ _ _ _ _ c.loop-s.invariant p.6 (omega (arith, p.7.most)) _ _ _ (sym (head_files a.front.now a.files.now p.0 _ _)) (p.2 _ (omega (arith, p.7.most))) (p.5 _ (omega (arith, p.7.most))) _ _ _
    c.if-not-pass_head.ensures refl

pub returns : goal.returns
returns c =
    let p = c.requires in
    heads_done _ c.args.front.now c.args.files.now p.0 _ _ _ _ c.loop-s.invariant _ p.7 p.6 (omega arith)
