-- The page of a directory, as an answer.
use Rattle.std.proofs.Common.{◌≡◌, ℕ, Bool, true, false, List, [], ◌∷◌, length, map, Option, Some, Ok, Err, refl, sym, ap, subst, ◌∙◌, lt-ltb, true≢false}
use Rattle.std.specs.Prelude.{is_some}
use Rattle.std.specs.List.{AllByRecursion, list_all, list_any}
use Rattle.std.proofs.lemmas.Bool.{and_from}
use Rattle.dav_core.specs.declared.member.Member.{Member}
use Rattle.dav_core.specs.DavPath.{WebPath}
use Rattle.dav_core.specs.Disk.{DiskState}
use Rattle.dav_core.specs.Unchanged.{Keeps}
use Rattle.dav_page.specs.declared.row.PageRow.{PageRow}
use Rattle.dav_page.specs.Listed.{AreRows}
use Rattle.dav_store.specs.FileView.{FileView}
use Rattle.dav_store.specs.View.{View}
use Rattle.dav_model.specs.Conditions.{Fields}
use Rattle.dav_model.specs.declared.outcome.Outcome.{Outcome}
use Rattle.dav_model.specs.Bodies.{text}
use Rattle.dav_model.specs.Due.{Query}
use Rattle.dav_model.specs.Head.{is_get}
use Rattle.dav_model.specs.Indexes.{IsIndexBody, IsIndexReply}
use Rattle.dav_model.specs.Play.{read_file}
use Rattle.dav_model.proofs.Nonempty.{IsNonempty, pieces_full}
use Rattle.dav_get.specs.declared.body.GetBody.{GetBody}
use Rattle.dav_get.specs.declared.open_at.OpenAt.{OpenAt}
use Rattle.dav_get.specs.declared.part.BodyPart.{BodyPart}
use Rattle.dav_get.specs.declared.part.BodyPart.TheVariants.{Text, Slice as SliceOf}
use Rattle.dav_get.specs.Bodies.{IsHeld, has_room, is_part, is_slice, left_of, parts_of}
use Rattle.dav_get.specs.Lives.{HasMost, OpenOnlyHeld, OpensOnly}
use Rattle.dav_get.specs.Right.{IsOfNumber, reply_at}
use Rattle.dav_get.specs.Table.{Answer, Given, GivesPage, IsPageBody}
use Rattle.dav_io.proofs.Cases.{not_there}
use Rattle.dav_get.proofs.FileOpened.{paged_none}

-- ---- texts

texts_parts : (n : ℕ) (texts : List (List ℕ)) → parts_of n (map Text texts) ≡ map text texts
texts_parts n [] = refl
texts_parts n (first ∷ texts) = ap (λ parts. text first ∷ parts) (texts_parts n texts)

-- Texts are the same under any number.
texts_alone : (n k : ℕ) (left : List BodyPart) (texts : List (List ℕ)) → parts_of n left ≡ map text texts → parts_of k left ≡ map text texts
texts_alone n k [] [] e = refl
texts_alone n k [] (first ∷ texts) e = cc
texts_alone n k (part ∷ left) [] e = cc
texts_alone n k (Text bytes ∷ left) (first ∷ texts) e =
    let here : bytes ≡ first = cc in
    let rest : parts_of n left ≡ map text texts = cc in
    λ i. text (here i) ∷ texts_alone n k left texts rest i
texts_alone n k (SliceOf part ∷ left) (first ∷ texts) e = cc

texts_sound : (texts : List (List ℕ)) → AllByRecursion IsNonempty texts → list_all is_part (map Text texts) ≡ true
texts_sound [] all = refl
texts_sound (first ∷ texts) all = and_from _ _ (lt-ltb 0 (length first) all.0) (texts_sound texts all.1)

texts_whole : (texts : List (List ℕ)) → list_any is_slice (map Text texts) ≡ false
texts_whole [] = refl
texts_whole (first ∷ texts) = texts_whole texts

texts_room : (most room : ℕ) (texts : List (List ℕ)) → list_all (has_room most room) (map Text texts) ≡ true
texts_room most room [] = refl
texts_room most room (first ∷ texts) = texts_room most room texts

-- ---- replies

pub index_rows : {F : Type 0} (fields : Fields) (n : ℕ) (gives : Bool) (dir : WebPath) (P Q : List PageRow → Type 0) (result : Given F) → ((rows : List PageRow) → P rows → Q rows)
    → IsIndexReply gives dir P (reply_at fields n result) → IsIndexReply gives dir Q (reply_at fields n result)
index_rows fields n gives dir P Q result to is = record { status = is.status; fields = is.fields; parts = by gives is.parts }
  where
    by : (gives : Bool) → IsIndexBody gives dir P (reply_at fields n result).parts → IsIndexBody gives dir Q (reply_at fields n result).parts
    by true (texts, are, index) = (texts, are, record { page = index.page; written = index.written; reads = index.reads; pieces = index.pieces; of = index.of; rows = to index.page.rows index.rows })
    by false none = none

-- A page is the same under any number.
pub index_renumbered : {F : Type 0} (fields : Fields) (n k : ℕ) (gives : Bool) (dir : WebPath) (P : List PageRow → Type 0) (result : Given F)
    → IsIndexReply gives dir P (reply_at fields n result) → IsIndexReply gives dir P (reply_at fields k result)
index_renumbered fields n k gives dir P (Err e) is = is
index_renumbered fields n k gives dir P (Ok r) is = record { status = is.status; fields = is.fields; parts = by gives is.parts }
  where
    by : (gives : Bool) → IsIndexBody gives dir P (parts_of n (left_of r.1)) → IsIndexBody gives dir P (parts_of k (left_of r.1))
    by true (texts, are, index) = (texts, texts_alone n k (left_of r.1) texts are, index)
    by false none = texts_alone n k (left_of r.1) [] none

-- What is given as a page is a page.
pub page_given : {F : Type 0} (q : Query) (members : List Member) (n : ℕ) (result : Given F) → GivesPage q members result
    → IsIndexReply (is_get q.method) q.path (AreRows q.path members) (reply_at q.fields n result)
page_given q members n (Err e) row = absurd row
page_given q members n (Ok r) (is, body) = record { status = ap (λ (o : Outcome). o.status) is; fields = ap (λ (o : Outcome). o.fields) is; parts = by (is_get q.method) body }
  where
    by : (gives : Bool) → IsPageBody gives q.path members r.1 → IsIndexBody gives q.path (AreRows q.path members) (parts_of n (left_of r.1))
    by true (texts, index, left, none) = (texts, ap (parts_of n) left ∙ texts_parts n texts, index)
    by false (left, none) = ap (parts_of n) left

-- It has no file.
pub page_numbers : {S C F : Type 0} (view : View S C F) (number : Option ℕ) (q : Query) (members : List Member) (result : Given F) (t : S) → GivesPage q members result
    → IsOfNumber view number t result
page_numbers view number q members (Err e) t row = absurd row
page_numbers view number q members (Ok r) t (is, body) = λ h some. absurd (not_there r.1.file h (paged_none (is_get q.method) q.path members r.1 body) some)

-- ---- bodies

page_whole : {F : Type 0} (gives : Bool) (dir : WebPath) (members : List Member) (b : GetBody F) → IsPageBody gives dir members b → list_any is_slice (left_of b) ≡ false
page_whole true dir members b (texts, index, left, none) = ap (list_any is_slice) left ∙ texts_whole texts
page_whole false dir members b (left, none) = ap (list_any is_slice) left

page_sound : {F : Type 0} (gives : Bool) (dir : WebPath) (members : List Member) (b : GetBody F) → IsPageBody gives dir members b → list_all is_part (left_of b) ≡ true
page_sound true dir members b (texts, index, left, none) =
    ap (list_all is_part) left ∙ texts_sound texts (subst (AllByRecursion IsNonempty) (sym index.pieces) (pieces_full index.reads.texts))
page_sound false dir members b (left, none) = ap (list_all is_part) left

page_room : {F : Type 0} (gives : Bool) (dir : WebPath) (members : List Member) (b : GetBody F) → IsPageBody gives dir members b
    → list_all (has_room b.most (length b.buffer.items)) (left_of b) ≡ true
page_room true dir members b (texts, index, left, none) = ap (list_all (has_room b.most (length b.buffer.items))) left ∙ texts_room b.most (length b.buffer.items) texts
page_room false dir members b (left, none) = ap (list_all (has_room b.most (length b.buffer.items))) left

page_held : {F : Type 0} (files : FileView F) (s : DiskState) (gives : Bool) (dir : WebPath) (members : List Member) (b : GetBody F)
    → IsPageBody gives dir members b → IsHeld files s b
page_held files s gives dir members b body =
    let whole = page_whole gives dir members b body in
    let none = paged_none gives dir members b body in
    record {
      parts = page_sound gives dir members b body;
      needs = λ e. absurd (true≢false (sym e ∙ whole));
      over = λ e. ap is_some none;
      some = λ e. absurd (true≢false (sym e ∙ whole));
      room = page_room gives dir members b body;
      file = λ h is. absurd (not_there b.file h none is);
    }

-- A page leaves nothing open.
pub page_life : {S C F : Type 0} (view : View S C F) (q : Query) (members : List Member) (s : S) (result : Given F) (t : S) → GivesPage q members result
    → Keeps (view.state s) (view.state t) → OpenOnlyHeld view s result t
page_life view q members s (Err e) t row keeps = keeps
page_life view q members s (Ok r) t (is, body) keeps = (
  page_held view.file (view.state t) (is_get q.method) q.path members r.1 body,
  subst (λ file. OpensOnly view.file.handle (view.state s) file (view.state t)) (sym (paged_none (is_get q.method) q.path members r.1 body)) keeps,
)

pub page_most : {F : Type 0} (q : Query) (members : List Member) (most : ℕ) (result : Given F) → GivesPage q members result → HasMost most result
page_most q members most (Err e) row = tt
page_most q members most (Ok r) (is, body) = λ e. absurd (true≢false (sym e ∙ page_whole (is_get q.method) q.path members r.1 body))

-- Where nothing changed, no file is held.
pub no_file_kept : {S C F : Type 0} (view : View S C F) (s : S) (r : Answer F) (t : S) (h : OpenAt F) → OpenOnlyHeld view s (Ok r) t → Keeps (view.state s) (view.state t)
    → r.1.file ≡ Some h → ⊥
no_file_kept view s r t h life keeps is =
    let (but, free, live) = subst (λ file. OpensOnly view.file.handle (view.state s) file (view.state t)) is life.1 in
    not_there ((view.state t).live (view.file.handle h.file)) read_file (keeps.live (view.file.handle h.file) ∙ free) live
