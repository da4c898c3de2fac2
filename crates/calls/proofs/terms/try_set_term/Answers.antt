-- `calls::terms::try_set_term` meets its contract. Assumes nothing.
use mathlib.Core.Path.{refl}
use Prim.Native.Nat.{ℕ}
use Rattle.tables.proofs.FormedStore.{formed_store}
use Rattle.calls.proofs.TermCases.{from_requires, put_requires, term_refused_as, term_set_as, term_unformed_as}
use Rattle.calls.proofs.terms.try_set_term.Goals as goal

pub returns-in_err-checked : goal.returns-in_err-checked
returns-in_err-checked c =
    term_unformed_as _ _ c.from_residual.ensures.1 _ _ _ _ _ _ _ c.in_err-checked.ensures

pub of_set_term-requires : goal.of_set_term-requires
of_set_term-requires c =
    formed_store _ _ c.in_ok-checked.ensures

pub returns-in_err-of_set_term : goal.returns-in_err-of_set_term
returns-in_err-of_set_term c =
    term_refused_as _ _ c.from_residual-in_err-of_set_term.ensures.1 _ _ _ _ _ _ _ c.in_ok-checked.ensures c.in_err-of_set_term.ensures

pub term_from-x-requires : goal.term_from-x-requires
term_from-x-requires c =
    from_requires _ c.args.p.now _ _ _ _ _ c.in_ok-checked.ensures
    c.in_ok-of_set_term.ensures

pub put_term-requires : goal.put_term-requires
put_term-requires c =
    let h = put_requires _ c.args.p.now _ _ _ _ _ c.in_ok-checked.ensures
    c.in_ok-of_set_term.ensures in
    (h.0, h.1, c.term_from-x.ensures.1, c.term_from-x.ensures.2)

pub returns : goal.returns
returns c =
    term_set_as _ _ _ _ _ _ _ _ _ _ c.in_ok-checked.ensures refl (λ (j : ℕ). (c.type_inv.t j).fits)
    c.in_ok-of_set_term.ensures c.term_from-x.ensures.0 c.put_term.ensures
