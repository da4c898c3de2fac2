-- `formed::files::number_formed` meets its contract. Assumes nothing.
use mathlib.Core.Path.{refl, ◌∙◌}
use Rattle.entrycheck.proofs.Lists.{all_are, filled}
use Rattle.formed.proofs.HeadRules.{all_alone, number_decided, number_refused}
use Rattle.formed.proofs.files.number_formed.Goals as goal

pub pass_heads-requires : goal.pass_heads-requires
unfolding filled
pass_heads-requires c =
    let p = c.requires in
    (p.0, p.1, λ s l. p.3.unmapped_at _ s p.5 l, all_are 8 _, refl, p.4.digits_are, p.5, p.6)

pub files_linked-requires : goal.files_linked-requires
files_linked-requires c =
    let p = c.requires in
    record {
      low = p.5;
      falling = p.2;
      places = p.4;
      masks = p.3;
      ends_are = c.if-pass_heads.ensures.ends_are refl;
      lives_are = c.if-pass_heads.ensures.lives_are refl;
      alone = all_alone _ _ _ _ _ _ c.if-pass_heads.ensures refl;
    }

pub returns-then-pass_heads : goal.returns-then-pass_heads
returns-then-pass_heads c = number_decided _ _ _ _ _ _ c.if-pass_heads.ensures _ refl c.files_linked.ensures

pub returns-else-pass_heads : goal.returns-else-pass_heads
returns-else-pass_heads c = c.if-pass_heads.false ∙ number_refused _ _ _ _ _ _ c.if-pass_heads.ensures refl
