-- Making and removing sets, and format, on set records. Document 01, "Changing calls".
use Rattle.std.specs.Prelude.{Bool, cond, true, List, ◌∷◌, [], suc, ℕ, eqb}
use Rattle.base.specs.Update.{upd}
use Rattle.rules.specs.State.{File, SetRecord, State, absent, children_of, marked, no_set, own, unmapped, unused_set, virgin}
use Rattle.rules.specs.Terms.{default_term}

-- the set record with another first child, another next sibling
abbrev pub with_first_child : SetRecord → ℕ → SetRecord
with_first_child r c = record { used = r.used; writeable = r.writeable; level = r.level; parent = r.parent; first_child = c; next_sibling = r.next_sibling; term = r.term }

abbrev pub with_next_sibling : SetRecord → ℕ → SetRecord
with_next_sibling r c = record { used = r.used; writeable = r.writeable; level = r.level; parent = r.parent; first_child = r.first_child; next_sibling = c; term = r.term }

-- set c behind the last of the chain that goes on from x with xs
unfoldable pub link_behind : ℕ → ℕ → List ℕ → (ℕ → SetRecord) → ℕ → SetRecord
link_behind c x [] sets = upd sets x (with_next_sibling (sets x) c)
link_behind c x (y ∷ ys) sets = link_behind c y ys sets

-- set c as the last of the children xs of set s
unfoldable pub link_last : ℕ → ℕ → List ℕ → (ℕ → SetRecord) → ℕ → SetRecord
link_last c s [] sets = upd sets s (with_first_child (sets s) c)
link_last c s (x ∷ xs) sets = link_behind c x xs sets

-- "Making a set appends it to the parent's chain"; "has the parent's level plus one"; "Format and making a set give 0 and 36,525." (document 02, Ask 8)
unfoldable pub append_set : ℕ → ℕ → Bool → (ℕ → SetRecord) → ℕ → SetRecord
append_set s c w sets =
    link_last c s (children_of sets s)
    (upd sets c (record { used = true; writeable = w; level = suc (sets s).level; parent = s; first_child = no_set; next_sibling = no_set; term = default_term }))

-- "own and virgin files become virgin in it, marked ones marked, all entries unmapped, size 0"
abbrev pub child_state : State → State
child_state absent = absent
child_state own = virgin
child_state virgin = virgin
child_state marked = marked

abbrev pub child_file : {K : Type 0} → File K → File K
child_file x = record { state = child_state x.state; size = 0; map = λ p. unmapped }

-- "Removing … unlinks it": a link to set c leads to the sibling after it
abbrev pub link_past : (ℕ → SetRecord) → ℕ → ℕ → ℕ
link_past sets c k = cond (eqb c k) (sets c).next_sibling k

unfoldable pub unlink_set : ℕ → (ℕ → SetRecord) → ℕ → SetRecord
unlink_set c sets x =
    cond (eqb c x) unused_set
    (with_next_sibling (with_first_child (sets x) (link_past sets c (sets x).first_child)) (link_past sets c (sets x).next_sibling))

-- "Set 0 is the root, level 0, writeable."; "Format and making a set give 0 and 36,525."
unfoldable pub root_alone : ℕ → SetRecord
root_alone s = cond (eqb 0 s) (record { used = true; writeable = true; level = 0; parent = no_set; first_child = no_set; next_sibling = no_set; term = default_term }) unused_set
