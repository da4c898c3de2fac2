-- A call begins: on well formed tables and pages, with the counts 0 and the free blocks counted, every step can be taken. Assumes nothing.
use mathlib.Core.Bool.{not, true}
use mathlib.Core.List.{List}
use mathlib.Core.Path.{◌≡◌, subst, sym}
use Prim.Native.Nat.{◌<◌, ℕ}
use native.Mathlib.Omega.{arith}
use lib.ListN.{length}
use Rattle.base.specs.Count.{count, count_le}
use Rattle.copying.specs.Work.{Ready, counts_new}
use Rattle.rules.specs.State.{live, stored}
use Rattle.tables.proofs.FormedStore.{FormedStore, formed_store}
use Rattle.tables.specs.Packed.{unpack, well_formed}
use Rattle.tables.specs.Views.{HeaderIn, PackedTables}
use Rattle.copying.specs.declared.giving.Counts.{Counts}

module _ (t p : List ℕ) (formed : well_formed t (length p) ≡ true) where
  store : FormedStore t p
  store = formed_store t p formed

  -- LAW: the words are well formed
  pub formed_packed : PackedTables t
  formed_packed = store.packed

  -- LAW: B is 1 to 4,096, next start is below B
  pub formed_header : HeaderIn (unpack t)
  formed_header = store.header

  -- LAW: every block that a map names is one of the store
  pub formed_named : (f s q b : ℕ) → ((unpack t).files f s).map q ≡ stored b → b < (unpack t).blocks
  formed_named f s q b e = (store.blocks_ok.used f s q b e).below

  -- LAW
  pub ready_begin : (f left : ℕ) (k : Counts) → f < 16 → k ≡ counts_new left → left ≡ count (unpack t).blocks (λ b. not ((unpack t).bits b)) → Ready t p f k
  ready_begin f left k hf ek el = subst (Ready t p f) (sym ek) (record {
    packed = formed_packed;
    sound = record {
      header = formed_header;
      named = formed_named f;
      bits_past = store.bits_past;
      left_is = el;
      room = omega (arith, el, count_le (unpack t).blocks (λ b. not ((unpack t).bits b)), formed_header.most);
      alive = omega (arith, count_le 8 (λ s. live ((unpack t).files f s).state));
      tree = store.sets_ok.tree;
    };
    size = store.pages;
    file = hf;
  })
