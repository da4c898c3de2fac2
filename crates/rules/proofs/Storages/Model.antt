-- Two more storages: the model, whose entries hold their bytes, so that nothing is shared; and the count, which has neither blocks nor bytes. Assumes nothing.
use Prim.Native.Nat.{◌+◌, ◌-◌, ℕ}
use Rattle.rules.specs.Storage.{PageData, Storage, overlay, zero_from}

abbrev pub model : Storage
model = record {
  Block = PageData;
  Memory = ℕ;
  Page = PageData;
  free = λ n. n;
  zeros = λ i. 0;
  get = λ n v. v;
  take = λ n. (λ i. 0, n - 1);
  put = λ n b v. (v, n);
  release = λ n b. n + 1;
  over = overlay;
  cut = zero_from;
}

abbrev pub counting : Storage
counting = record {
  Block = Unit {0};
  Memory = ℕ;
  Page = Unit {0};
  free = λ n. n;
  zeros = tt;
  get = λ n v. tt;
  take = λ n. (tt, n - 1);
  put = λ n b v. (tt, n);
  release = λ n b. n + 1;
  over = λ off bs p v. tt;
  cut = λ n v. tt;
}
