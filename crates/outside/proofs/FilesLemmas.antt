-- A tree of texts, read as a map of bytes.
use Rattle.std.proofs.Common.{◌≡◌, ◌≢◌, ◌∙◌, ℕ, Bool, true, false, cond, List, [], ◌∷◌, Option, Some, String, Vec, map, string_bytes, refl, sym, ap}
use Rattle.std.specs.BTreeMap.{BTreeMap, Updates, get_by_text, is_at}
use Rattle.std.specs.Cmp.Lexicographic.{slice_cmp, texts_ties}
use Rattle.std.specs.FinMap.{find, get, insert, get-from_entries, get-insert, nat_cmp-IsAntisymmetric, same_map, slice_cmp-IsAntisymmetric}
use Rattle.std.specs.Global.{Global}
use Rattle.std.specs.Map.{lookup}
use Rattle.std.specs.Option.{option_map}
use Rattle.std.specs.Ordering.{eq_by_cmp, nat_cmp}
use Rattle.std.specs.Str.{bytes_eq}
use Rattle.std.specs.String.{string_cmp}
use Rattle.std.proofs.lemmas.Cmp.{eq_by_cmp_equiv, nat_list_cmp_total}
use Rattle.std.proofs.lemmas.Bool.{false_from_ne_true}
use Rattle.std.proofs.lemmas.Slice.Eq.{bytes_eq-Decides}
use Rattle.std.proofs.lemmas.Map.Text.{btree_map_updates_text, text_cmp}
use Rattle.outside.specs.Files.{Files, bytes_of_entry, files_of}

-- what the tree's entries hold under a name is what their bytes hold under it
find-bytes_of_entry : (q : List ℕ) (es : List (String Global × Vec ℕ Global)) → find (slice_cmp nat_cmp) q (map bytes_of_entry es) ≡ option_map (λ v. v.items) (lookup (is_at (text_cmp q)) es)
find-bytes_of_entry q [] = refl
find-bytes_of_entry q (e ∷ es) =
    elim (eq_by_cmp (slice_cmp nat_cmp) q (string_bytes e.0)) as (λ b. cond b (Some e.1.items) (find (slice_cmp nat_cmp) q (map bytes_of_entry es)) ≡ option_map (λ v. v.items) (cond b (Some e.1) (lookup (is_at (text_cmp q)) es))) [
      | true ↦ refl
      | false ↦ find-bytes_of_entry q es
    ]

-- a name holds in the files of a tree what it holds in the tree
pub get-files_of : (tree : BTreeMap (String Global) (Vec ℕ Global)) (q : List ℕ) → get (files_of tree) q ≡ option_map (λ v. v.items) (get_by_text tree q)
get-files_of tree q = get-from_entries nat_list_cmp_total (map bytes_of_entry tree.entries) q ∙ find-bytes_of_entry q tree.entries

-- the two tests of a name agree, whichever name comes first
bytes_eq-eq_by_cmp : (p q : List ℕ) → bytes_eq p q ≡ eq_by_cmp (slice_cmp nat_cmp) q p
bytes_eq-eq_by_cmp p q = texts_ties p q ∙ (eq_by_cmp_equiv nat_list_cmp_total).symm p q

option_map-cond : (b : Bool) (v : Vec ℕ Global) (o : Option (Vec ℕ Global)) → option_map (λ v. v.items) (cond b (Some v) o) ≡ cond b (Some v.items) (option_map (λ v. v.items) o)
option_map-cond true v o = refl
option_map-cond false v o = refl

-- to set a name in the tree is to set it in its files
pub files_of-insert : (old new : BTreeMap (String Global) (Vec ℕ Global)) (key : String Global) (value : Vec ℕ Global) → Updates string_cmp old new key (Some value) → files_of new ≡ insert (files_of old) (string_bytes key) value.items
files_of-insert old new key value updates =
    same_map nat_list_cmp_total (slice_cmp-IsAntisymmetric nat_cmp-IsAntisymmetric) (files_of new) (insert (files_of old) (string_bytes key) value.items) (λ q.
    get-files_of new q
    ∙ ap (option_map (λ v. v.items)) (btree_map_updates_text (string_bytes key) old new (Some value) updates q)
    ∙ option_map-cond (bytes_eq (string_bytes key) q) value (get_by_text old q)
    ∙ ap (λ b. cond b (Some value.items) (option_map (λ v. v.items) (get_by_text old q))) (bytes_eq-eq_by_cmp (string_bytes key) q)
    ∙ ap (cond (eq_by_cmp (slice_cmp nat_cmp) q (string_bytes key)) (Some value.items)) (sym (get-files_of old q))
    ∙ sym (get-insert nat_list_cmp_total (files_of old) (string_bytes key) value.items q))

-- a name that was set holds what it was set to
pub get-insert_same : (files : Files) (name bytes : List ℕ) → get (insert files name bytes) name ≡ Some bytes
get-insert_same files name bytes =
    get-insert nat_list_cmp_total files name bytes name
    ∙ ap (λ b. cond b (Some bytes) (get files name)) ((eq_by_cmp_equiv nat_list_cmp_total).refl name)

-- each other name holds what it held
pub get-insert_other : (files : Files) (name bytes n : List ℕ) → n ≢ name → get (insert files name bytes) n ≡ get files n
get-insert_other files name bytes n differs =
    get-insert nat_list_cmp_total files name bytes n
    ∙ ap (λ b. cond b (Some bytes) (get files n)) (false_from_ne_true (eq_by_cmp (slice_cmp nat_cmp) n name) (λ same. differs ((bytes_eq-Decides n name).0 (texts_ties n name ∙ same))))
