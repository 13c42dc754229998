-- A head, the rows of members and the end are a page.
use Rattle.std.proofs.Common.{◌≡◌, ℕ, true, List, [], ◌∷◌, ◌++◌, cond, Bool, false, map, refl, ap, ap₂, ◌∙◌, append_assoc, append-nil}
use Rattle.std.specs.List.{AllByRecursion, AllZip, filter, flat_map, list_all}
use Rattle.std.specs.List.Sorted.{IsPermutation, IsSortedByKey}
use Rattle.std.specs.Cmp.Lexicographic.{slice_cmp}
use Rattle.std.specs.Ordering.{nat_cmp}
use Rattle.std.specs.Str.{chars, is_utf8}
use Rattle.std.proofs.lemmas.Bool.{and_parts}
use Rattle.std.proofs.lemmas.Grind.{flat_map-append}
use Rattle.std.proofs.lemmas.List.Elements.{All-from_recursion, recursion_from_All}
use Rattle.std.proofs.lemmas.List.Sorted.{All-permutation}
use Rattle.dav_core.specs.declared.member.Member.{Member}
use Rattle.dav_core.specs.DavPath.{WebPath, last_name, link_of, shown}
use Rattle.dav_page.specs.declared.row.PageRow.{PageRow}
use Rattle.dav_page.specs.Index.{HasHead, IsIndex, IsRowText, page_of, written_row}
use Rattle.dav_page.specs.Listed.{AreRows, AreSound, HasPlainName, IsRowOf, all_names, crumbs_from, has_plain_name, is_visible, place_of}
use Rattle.dav_page.specs.Pages.{IsRow, PageTexts, RowTexts, after_rows, before_heading, before_rows, before_title, heading_text, row_text}
use Rattle.dav_page.proofs.Crumbs.{joined_utf8}

-- what is read of the texts of some rows, and how they stand
record AreTaken (dir : WebPath) (listed : List Member) (rows : List (List ℕ)) : Type 0 where
  pub texts : List RowTexts
  pub taken : List PageRow
  pub written : texts ≡ map written_row taken
  pub spells : rows ≡ map row_text texts
  pub utf8 : is_utf8 (flat_map (λ t. t) rows) ≡ true
  pub reads : AllZip IsRow texts taken
  pub of : AllZip (IsRowOf dir) listed taken

nothing_utf8 : is_utf8 [] ≡ true
unfolding is_utf8 chars
nothing_utf8 = refl

rows_taken : (dir : WebPath) (listed : List Member) (rows : List (List ℕ)) → AllZip (IsRowText dir) listed rows → AreTaken dir listed rows
rows_taken dir [] [] h = record { texts = []; taken = []; written = refl; spells = refl; utf8 = nothing_utf8; reads = tt; of = tt }
rows_taken dir [] (row ∷ rows) h = elim h [ ]
rows_taken dir (m ∷ listed) [] h = elim h [ ]
rows_taken dir (m ∷ listed) (row ∷ rows) h = let more = rows_taken dir listed rows h.1 in record {
  texts = h.0.texts ∷ more.texts;
  taken = h.0.row ∷ more.taken;
  written = ap₂ (λ r rs. r ∷ rs) h.0.written more.written;
  spells = ap₂ (λ r rs. r ∷ rs) h.0.spells more.spells;
  utf8 = joined_utf8 row (flat_map (λ t. t) rows) h.0.utf8 more.utf8;
  reads = (h.0.reads, more.reads);
  of = (h.0.of, more.of);
}

pub joined_rows : (texts : List RowTexts) → flat_map (λ t. t) (map row_text texts) ≡ flat_map row_text texts
joined_rows [] = refl
joined_rows (r ∷ texts) = ap (λ t. row_text r ++ t) (joined_rows texts)

pub regroup : (a b c d e rest : List ℕ) → (a ++ (b ++ (c ++ (d ++ e)))) ++ rest ≡ a ++ (b ++ (c ++ (d ++ (e ++ rest))))
regroup a b c d e rest =
    append_assoc a (b ++ (c ++ (d ++ e))) rest
    ∙ ap (λ t. a ++ t) (append_assoc b (c ++ (d ++ e)) rest ∙ ap (λ t. b ++ t) (append_assoc c (d ++ e) rest ∙ ap (λ t. c ++ t) (append_assoc d e rest)))

pub end_utf8 : is_utf8 after_rows ≡ true
unfolding is_utf8 chars lib.Utf8.encode
end_utf8 = refl

pub joined : (head : List ℕ) (rows : List (List ℕ))
    → flat_map (λ t. t) (head ∷ (rows ++ after_rows ∷ [])) ≡ head ++ (flat_map (λ t. t) rows ++ after_rows)
joined head rows =
    ap (λ t. head ++ t) (flat_map-append (λ t. t) rows (after_rows ∷ []) ∙ ap (λ t. flat_map (λ t. t) rows ++ t) (append-nil after_rows))

-- They are a page of the directory.
pub index_made : (dir : WebPath) (all listed : List Member) (head : List ℕ) (rows texts : List (List ℕ)) → HasHead dir head
    → IsPermutation (filter is_visible all) listed → IsSortedByKey place_of (slice_cmp nat_cmp) listed → AllZip (IsRowText dir) listed rows
    → texts ≡ head ∷ (rows ++ after_rows ∷ []) → IsIndex dir (AreRows dir all) texts
index_made dir all listed head rows texts h once order zip e =
    let r = rows_taken dir listed rows zip in
    let page_texts : PageTexts = record { title = h.title; crumbs = h.leads.texts; last = h.leads.last; rows = r.texts } in
    let behind = flat_map row_text r.texts ++ after_rows in
    let front : head ≡ before_title ++ (h.title ++ (before_heading ++ (heading_text h.leads.texts h.leads.last ++ before_rows))) =
    h.spells ∙ ap (λ t. before_title ++ (h.title ++ (before_heading ++ (t ++ before_rows)))) h.leads.spells in
    let whole : flat_map (λ t. t) texts ≡ head ++ (flat_map (λ t. t) rows ++ after_rows) = ap (flat_map (λ t. t)) e ∙ joined head rows in
    record {
      page = page_of dir r.taken;
      written = e ∙ ap₂ (λ a b. a ∷ (b ++ after_rows ∷ []))
          (h.spells ∙ ap₂ (λ t w. before_title ++ (t ++ (before_heading ++ (w ++ before_rows)))) h.titled h.headed)
          (r.spells ∙ ap (map row_text) r.written);
      reads = record {
        utf8 =
            ap is_utf8 whole
            ∙ joined_utf8 head (flat_map (λ t. t) rows ++ after_rows) h.utf8 (joined_utf8 (flat_map (λ t. t) rows) after_rows r.utf8 end_utf8);
        texts = page_texts;
        spells = whole ∙ ap₂ (λ a b. a ++ (b ++ after_rows)) front (ap (flat_map (λ t. t)) r.spells ∙ joined_rows r.texts)
            ∙ regroup before_title h.title before_heading (heading_text h.leads.texts h.leads.last) before_rows behind;
        title = h.names;
        root = h.leads.root;
        crumbs = h.leads.crumbs;
        last = h.leads.ends;
        rows = r.reads;
      };
      pieces = e ∙ ap₂ (λ a b. a ∷ (b ++ after_rows ∷ [])) front r.spells;
      of = record { title = refl; crumbs = refl; last = refl };
      rows = record { listed = listed; each_once = once; in_order = order; shown = r.of };
    }

kept_one : (b : Bool) (m : Member) (rest : List Member) → HasPlainName m → AllByRecursion HasPlainName rest
    → AllByRecursion HasPlainName (cond b (m ∷ rest) rest)
kept_one true m rest p h = (p, h)
kept_one false m rest p h = h

kept_plain : (all : List Member) → AllByRecursion HasPlainName all → AllByRecursion HasPlainName (filter is_visible all)
kept_plain [] h = tt
kept_plain (m ∷ all) h = kept_one (is_visible m) m (filter is_visible all) h.0 (kept_plain all h.1)

pub plain_each : (all : List Member) → list_all has_plain_name all ≡ true → AllByRecursion HasPlainName all
plain_each [] e = tt
plain_each (m ∷ all) e = let p = and_parts (has_plain_name m) (list_all has_plain_name all) e in (p.0, plain_each all p.1)

-- The names of the members that are shown are plain.
pub plain_listed : (all listed : List Member) → AllByRecursion HasPlainName all → IsPermutation (filter is_visible all) listed
    → AllByRecursion HasPlainName listed
plain_listed all listed h once =
    recursion_from_All HasPlainName listed
    (All-permutation HasPlainName (filter is_visible all) listed once (All-from_recursion HasPlainName (filter is_visible all) (kept_plain all h)))

-- Its rows are those of some members with plain names, whatever they are.
pub index_sound : (dir : WebPath) (all : List Member) (texts : List (List ℕ)) → AllByRecursion HasPlainName all
    → IsIndex dir (AreRows dir all) texts → IsIndex dir (AreSound dir) texts
index_sound dir all texts plain i = record { page = i.page; written = i.written; reads = i.reads; pieces = i.pieces; of = i.of; rows = (all, plain, i.rows) }
