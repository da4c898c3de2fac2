-- For the contracts of the code, not for a reader of document 01: bytes written into a lent buffer.
use Rattle.std.specs.Prelude.{Err, Ok, Result, cond, ◌++◌, List, [], ◌≡◌, ◌+◌, ◌-◌, suc, zero, ℕ, ◌≤◌, eqb, leb, length}
use Rattle.std.proofs.lemmas.List.Edits.{sets}
use Rattle.listing.specs.Listing.{set_text}
use Rattle.rules.specs.State.{Tables, set_count}
use Rattle.listing.specs.declared.text.Writer.{Writer}
use Rattle.listing.specs.declared.store.ListError.{ListError}
use Rattle.listing.specs.declared.store.ListError.TheVariants.{NotWellFormed, TooSmall}

-- from d to e the bytes l were written at cur and after it, as far as the buffer goes, and r is past them
pub record Wrote (d e : List ℕ) (cur r : ℕ) (l : List ℕ) : Type 0 where
  pub bytes : e ≡ sets d cur l
  pub past : r ≡ cur + length l

-- from w to v the bytes l were written into the buffer that both hold
pub record Put (w v : Writer) (l : List ℕ) : Type 0 where
  pub wrote : Wrote w.out.now v.out.now w.at v.at l
  pub same : v.out.ghost_name ≡ w.out.ghost_name

-- the text of sets that were visited, and how many are not visited yet
pub record Visit : Type 0 where
  pub text : List ℕ
  pub left : ℕ

-- nothing is visited
abbrev pub stay : ℕ → Visit
stay left = record { text = []; left = left }

-- a text, then what is visited behind it
abbrev pub behind : List ℕ → Visit → Visit
behind text v = record { text = text ++ v.text; left = v.left }

-- A set with what is below it, and a chain of siblings from k on, as long as there are sets not visited yet; f bounds how deep the calls go.
unfoldable mutual
  pub visit_set : Tables → ℕ → ℕ → ℕ → Visit
  visit_set tb zero left s = stay left
  visit_set tb (suc f) left s = behind (set_text tb s) (visit_chain tb f (left - 1) (tb.sets s).first_child)

  pub visit_chain : Tables → ℕ → ℕ → ℕ → Visit
  visit_chain tb zero left k = stay left
  visit_chain tb (suc f) left k =
      cond (eqb left 0) (stay left)
      (cond (leb set_count k) (stay left)
      (behind (visit_set tb f left k).text (visit_chain tb f (visit_set tb f left k).left (tb.sets k).next_sibling)))

-- from w to r the text of a visit was written, and as many sets are left
pub record Visited (w r : Writer) (left : ℕ) (v : Visit) : Type 0 where
  pub put : Put w r v.text
  pub rest : left ≡ v.left

-- no listing is longer than 137,056 bytes, and what is told to be written is within the buffer of n bytes
abbrev pub ListedFits : ℕ → Result ℕ ListError → Type 0
ListedFits n (Err NotWellFormed) = Unit {0}
ListedFits n (Err (TooSmall m)) = m ≤ 137056
ListedFits n (Ok m) = m ≤ n
