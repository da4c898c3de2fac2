-- Numbers of files and pages in range: the test from the bounds, and back. Assumes nothing.
use mathlib.Core.Bool.{true}
use mathlib.Core.Path.{◌≡◌}
use Prim.Native.Nat.{◌<◌, ℕ}
use lib.Dec.{ltb}
use borrow.Author.Tests.{lt-ltb, ltb-true}
use Rattle.base.specs.Logic.{and_left, and_right}
use Rattle.rules.specs.State.{file_count, page_count, set_count}
use Rattle.tables.specs.Packed.{is_file, is_page}

-- in range, by test and back
pub file_in : (f s : ℕ) → is_file f s ≡ true → (f < file_count) × (s < set_count)
file_in f s e = (ltb-true f file_count (and_left (ltb f file_count) (ltb s set_count) e), ltb-true s set_count (and_right (ltb f file_count) (ltb s set_count) e))

pub page_in : (f s p : ℕ) → is_page f s p ≡ true → (f < file_count) × (s < set_count) × (p < page_count)
page_in f s p e =
    let a = file_in f s (and_left (is_file f s) (ltb p page_count) e) in
    (a.0, a.1, ltb-true p page_count (and_right (is_file f s) (ltb p page_count) e))

pub is_file_law : (f s : ℕ) → f < file_count → s < set_count → is_file f s ≡ true
is_file_law f s hf hs = rw (lt-ltb f file_count hf, lt-ltb s set_count hs)

pub is_page_law : (f s p : ℕ) → f < file_count → s < set_count → p < page_count → is_page f s p ≡ true
is_page_law f s p hf hs hp = rw (lt-ltb f file_count hf, lt-ltb s set_count hs, lt-ltb p page_count hp)
