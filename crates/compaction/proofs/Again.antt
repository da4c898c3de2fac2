-- Compaction sees only what it keeps. So a second one changes nothing but what is free. Assumes nothing.
use mathlib.Core.Bool.{true}
use mathlib.Core.Path.{◌≡◌, ap, fun_ext, refl, sym, ◌∙◌}
use Prim.Native.Nat.{◌%◌, ℕ}
use lib.Dec.{ltb}
use Rattle.compaction.proofs.Anew.{contents_map}
use Rattle.compaction.proofs.Compacted.{compacted_model, compacted_renumbered}
use Rattle.compaction.specs.Compact.{compacted, contents, files_anew, free_pages, pages_anew, place_count, used_blocks}
use Rattle.compaction.specs.Renumbered.{Becomes}
use Rattle.rules.proofs.Storages.CountCalls.{model_of}
use Rattle.rules.proofs.Storages.Model.{model}
use Rattle.rules.proofs.Whole.Order.{InOrder}
use Rattle.rules.specs.Calls.{Store, tables_of}
use Rattle.rules.specs.Storage.{PageData, real}

-- LAW: compaction sees B, the sets and the contents
pub compacted_same : (free : ℕ → PageData) (r r' : Store real) → r'.memory.blocks ≡ r.memory.blocks → r'.sets ≡ r.sets → contents r' ≡ contents r →
    compacted free r' ≡ compacted free r
unfolding compacted
compacted_same free r r' b s c = λ i. record {
  memory = record {
    blocks = b i;
    next = used_blocks (c i) % b i;
    bits = λ x. ltb x (used_blocks (c i));
    pages = pages_anew (c i) (free_pages (b i) free) place_count;
  };
  sets = s i;
  files = files_anew (c i);
}

-- the contents are told by the model
contents_of : (r r' : Store real) → model_of r' ≡ model_of r → contents r' ≡ contents r
contents_of r r' e = fun_ext (λ f. contents_map r' f ∙ ap (λ (m : Store model). m.files f) e ∙ sym (contents_map r f))

module _ (B : ℕ) (r : Store real) (o : InOrder B r) (free free' : ℕ → PageData) where
  again : compacted free' (compacted free r) ≡ compacted free' r
  again = compacted_same free' r (compacted free r) (unfold compacted in refl) (unfold compacted in refl) (contents_of r (compacted free r) (compacted_model B free r o))

  -- THEOREM: the tables stay
  pub tables_again : tables_of (compacted free' (compacted free r)) ≡ tables_of (compacted free r)
  tables_again = ap tables_of again ∙ (unfold compacted in refl)

  -- THEOREM: so does every used page
  pub pages_again : (b : ℕ) → (compacted free r).memory.bits b ≡ true → (compacted free' (compacted free r)).memory.pages b ≡ (compacted free r).memory.pages b
  pages_again b h =
      let m = (compacted_renumbered B free r o).made b h in
      let w : Becomes r (compacted free' r) m.0 b =
      record { set = m.1.set; file = m.1.file; page = m.1.page; before = m.1.before; after = (unfold compacted in m.1.after) } in
      ap (λ (x : Store real). x.memory.pages b) again ∙ (compacted_renumbered B free' r o).bytes m.0 b w ∙ sym ((compacted_renumbered B free r o).bytes m.0 b m.1)
