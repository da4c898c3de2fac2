-- The rules on files look at kinds only: they hold of files whose blocks are mapped exactly when they hold of the files. Assumes nothing.
use mathlib.Core.Path.{ap, refl, subst, sym, ◌∙◌, ◌≡◌}
use Prim.Native.Nat.{◌*◌, ℕ, ◌≤◌}
use Rattle.rules.proofs.Storages.MapBlocks.{map_stored, map_entry, map_file, map_files, resolve_map, size_map}
use Rattle.rules.proofs.Formed.Shape.{FilesFormed}
use Rattle.rules.specs.Reading.{resolve}
use Rattle.rules.specs.Rules.{marked_file}
use Rattle.rules.specs.State.{Entry, File, Files, Tree, absent_file, hole, is_stored, stored, unmapped}

module _ {K L : Type 0} (g : K → L) where
  map_back : (e : Entry K) → map_entry g e ≡ unmapped → e ≡ unmapped
  map_back unmapped h = refl
  map_back hole h = cc
  map_back (stored b) h = cc

  -- a file with no mapped page
  file_back : (x y : File K) → ((p : ℕ) → y.map p ≡ unmapped) → map_file g x ≡ map_file g y → x ≡ y
  file_back x y u h =
      let e : (p : ℕ) → x.map p ≡ y.map p = λ p. map_back (x.map p) ((λ j. (h j).map p) ∙ ap (map_entry g) (u p)) ∙ sym (u p) in
      λ i. record { state = (h i).state; size = (h i).size; map = λ p. e p i }

  module _ (t : Tree) (files : Files K) where
    past_map : (s p : ℕ) → is_stored (resolve t (map_files g files) s p) ≡ is_stored (resolve t files s p)
    past_map s p = ap is_stored (resolve_map g t files s p) ∙ map_stored g (resolve t files s p)

    pub map_formed : FilesFormed t files → FilesFormed t (map_files g files)
    map_formed k = record {
      shape = λ s. let f = k.shape s in record {
        empty = λ e. ap (map_file g) (f.empty e);
        unused = f.unused;
        out = f.out;
        beyond = λ p l. ap (map_entry g) (f.beyond p l);
        most = f.most;
        bare_size = f.bare_size;
        root_own = f.root_own;
        root_full = λ z h p l u. f.root_full z h p l (map_back ((files s).map p) u);
      };
      ok = record {
        closed = λ s p l h u. k.ok.closed s p l h (map_back ((files s).map p) u);
        listed = λ s p l h u. k.ok.listed s p l h (map_back ((files s).map p) u);
        bare = λ s p l v. ap (map_entry g) (k.ok.bare s p l v);
      };
      past = λ s p l h z. past_map s p ∙ k.past s p l h (subst (λ n. n ≤ p * 512) (size_map g t files s) z);
      bare_marked = λ s m. ap (map_file g) (k.bare_marked s m);
    }

    pub unmap_formed : FilesFormed t (map_files g files) → FilesFormed t files
    unmap_formed k = record {
      shape = λ s. let f = k.shape s in record {
        empty = λ e. file_back (files s) absent_file (λ p. refl) (f.empty e);
        unused = f.unused;
        out = f.out;
        beyond = λ p l. map_back ((files s).map p) (f.beyond p l);
        most = f.most;
        bare_size = f.bare_size;
        root_own = f.root_own;
        root_full = λ z h p l u. f.root_full z h p l (ap (map_entry g) u);
      };
      ok = record {
        closed = λ s p l h u. k.ok.closed s p l h (ap (map_entry g) u);
        listed = λ s p l h u. k.ok.listed s p l h (ap (map_entry g) u);
        bare = λ s p l v. map_back ((files s).map p) (k.ok.bare s p l v);
      };
      past = λ s p l h z. sym (past_map s p) ∙ k.past s p l h (subst (λ n. n ≤ p * 512) (sym (size_map g t files s)) z);
      bare_marked = λ s m. file_back (files s) marked_file (λ p. refl) (k.bare_marked s m);
    }
