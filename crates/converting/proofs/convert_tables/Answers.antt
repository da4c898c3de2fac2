-- `converting::convert_tables` meets its contract. Assumes nothing.
use mathlib.Core.Path.{refl, sym, ◌∙◌}
use Prim.Native.Nat.{ℕ}
use Rattle.converting.proofs.Fronts.{by_check, converted, files_start, files_wide, parts_ready, wrong_old, wrong_second}
use Rattle.converting.proofs.convert_tables.Goals as goal

pub returns-then-not-older_length : goal.returns-then-not-older_length
returns-then-not-older_length c =
    let a = c.args in
    (wrong_old a.old.now a.tables.now _ _ c.older_length.ensures c.if-not-older_length.true, refl)

pub returns-then-tables-ne-TABLE_BYTES : goal.returns-then-tables-ne-TABLE_BYTES
returns-then-tables-ne-TABLE_BYTES c = (wrong_second _ c.args.tables.now _ c.if-tables-ne-TABLE_BYTES.true, refl)

pub put_front-requires : goal.put_front-requires
put_front-requires c =
    let o = c.older_length in
    (refl, sym o.ensures ∙ c.if-not-older_length.false)

pub overflow_sub-at : goal.overflow_sub-at
overflow_sub-at c =
    let o = c.older_length in
    files_start _ (sym o.ensures ∙ c.if-not-older_length.false)

pub parts_formed-requires : goal.parts_formed-requires
parts_formed-requires c =
    let o = c.older_length in
    (c.put_front.ensures.len, files_wide c.args.old.now (sym o.ensures ∙ c.if-not-older_length.false))

pub returns-then-not-parts_formed : goal.returns-then-not-parts_formed
returns-then-not-parts_formed c =
    let a = c.args in
    (sym c.if-not-parts_formed.true ∙ by_check a.old.now a.tables.now a.n _ c.put_front.ensures _ c.parts_formed.ensures c.if-tables-ne-TABLE_BYTES.false, refl)

pub put_parts-requires : goal.put_parts-requires
put_parts-requires c =
    let o = c.older_length in
    (c.if-tables-ne-TABLE_BYTES.false, c.put_front.ensures.len, files_wide c.args.old.now (sym o.ensures ∙ c.if-not-older_length.false))

pub clear_marked-requires : goal.clear_marked-requires
clear_marked-requires c =
    let a = c.args in
    parts_ready a.old.now a.tables.now a.n _ c.put_front.ensures _ c.parts_formed.ensures c.if-not-parts_formed.false _ c.put_parts.ensures

pub returns : goal.returns
returns c =
    let a = c.args in (
      sym c.if-not-parts_formed.false ∙ by_check a.old.now a.tables.now a.n _ c.put_front.ensures _ c.parts_formed.ensures c.if-tables-ne-TABLE_BYTES.false,
      converted a.old.now a.tables.now a.n _ c.put_front.ensures _ c.parts_formed.ensures _ _ (λ (j : ℕ). (c.type_inv.tables j).fits) c.put_parts.ensures c.clear_marked.ensures,
    )
