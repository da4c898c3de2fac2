-- `masks::unmapped_pages` meets its contract. Assumes nothing.
use mathlib.Core.Path.{ap₂, ◌∙◌}
use Prim.Native.Nat.{◌-◌, ◌^◌, ℕ}
use lib.Bits.{bit_or}
use Rattle.masks.proofs.KindMasks.{file_mask, unmapped_mask}
use Rattle.rules.specs.State.{is_unmapped}
use Rattle.tables.specs.Layout.{map_at}
use Rattle.masks.proofs.unmapped_pages.Goals as goal

pub returns : goal.returns
returns c =
    let k = c.kind_masks-k.ensures in
    ap₂ (λ (x y : ℕ). (2 ^ 64 - 1) - bit_or x y) k.0 k.1 ∙ unmapped_mask c.args.t.now (λ i. (c.type_inv.t i).fits) (map_at c.args.f c.args.s)
    ∙ file_mask is_unmapped c.args.t.now c.args.f c.args.s c.requires.1 c.requires.2
