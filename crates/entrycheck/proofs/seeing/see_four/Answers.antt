-- `entrycheck::seeing::see_four` meets its contract. Assumes nothing.
use mathlib.Core.Bool.{true}
use mathlib.Core.Path.{ap, subst, sym, ◌∙◌}
use Prim.Native.Nat.{◌%◌, ◌*◌, ◌/◌, ◌^◌}
use native.Mathlib.Omega.{arith}
use lib.Bits.{bit_and, bit_or}
use Rattle.packing.specs.Words.{put_word}
use Rattle.entrycheck.proofs.Runs.{run_pass}
use Rattle.entrycheck.proofs.Windows.{four_clash, four_lt, four_seen, run_limit}
use Rattle.entrycheck.specs.Seeing.{Sees}
use Rattle.entrycheck.proofs.seeing.see_four.Goals as goal

pub returns-then-b-limit : goal.returns-then-b-limit
returns-then-b-limit c = run_limit c.args.limit c.args.b 4 _ c.told-seen (omega arith) (omega arith)

pub returns-then-x-y-ne0 : goal.returns-then-x-y-ne0
returns-then-x-y-ne0 c =
    let b = c.args.b in
    four_clash _ _ c.fits-seen c.told-seen b c.requires.0 c.requires.1
    (λ e. c.if-x-y-ne0.true (ap (λ x. bit_and x (0xF000000000000000 / 2 ^ (b % 64))) c.read-x.ensures.0 ∙ e))

pub write-requires : goal.write-requires
write-requires c =
    (omega arith, omega arith, omega arith, four_lt _ c.args.b c.read-x.ensures.1)

pub returns : goal.returns
returns c =
    let e = c.read-x.ensures.0 in
    let b = c.args.b in
    let y = 0xF000000000000000 / 2 ^ (b % 64) in
    let l = c.args.seen.now in
    subst (λ l'. Sees (run_pass c.args.limit b 4) l l' true)
    (sym (c.write.ensures ∙ ap (λ x. put_word 7 l (b / 64 * 8) (bit_or x y)) e))
    (four_seen _ l c.fits-seen c.told-seen b c.requires.0 c.requires.1 c.if-b-limit.false (ap (λ x. bit_and x y) (sym e) ∙ c.if-x-y-ne0.false))
