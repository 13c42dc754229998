-- How uploads stand through the edits of a world: the one that is written, and the others.
use Rattle.std.proofs.Common.{◌≡◌, ◌≢◌, ◌<◌, ◌==◌, inl, inr, ℕ, List, [], length, Bool, true, false, Option, None, Some, IsSome, refl, sym, ap, subst, ◌∙◌, arith}
use Rattle.dav_core.specs.declared.tree.Row.{Row}
use Rattle.dav_core.specs.declared.tree.Kind.TheVariants.{File}
use Rattle.dav_core.specs.Disk.{Live, at_start}
use Rattle.dav_core.specs.Edits.{Edited, fills, makes}
use Rattle.dav_core.specs.Path.{Names}
use Rattle.dav_core.specs.Tree.{row_at}
use Rattle.dav_core.specs.World.{Holds, IsWorld, OpenFile, World, bytes_of}
use Rattle.dav_core.proofs.UnchangedLemmas.{equal_keys, other_keys, put_same}
use Rattle.dav_upload.specs.Kept.{KeepsRow}
use Rattle.dav_upload.specs.Names.{is_hidden_path}
use Rattle.dav_upload.specs.Pieces.{upload_options}
use Rattle.dav_upload.specs.Shown.{IsUnseen, SameShown}
use Rattle.dav_upload.specs.Standing.{OthersOpen, Pending, StandsIn}
use Rattle.dav_upload.proofs.Beside.{below_greatest}
use Rattle.dav_upload.proofs.Kept.{IsMadeIn, kept_filled, made_in, same_keep, unseen_new, unseen_same}
use Rattle.dav_upload.proofs.Making.{filled_unseen}
use Rattle.dav_upload.proofs.Moving.{numbered}
use Rattle.dav_io.proofs.Cases.{some_of}

module _ (shown : ℕ → Bool) (own : ℕ) (live then : ℕ → Option Live) (v w : World) (others : OthersOpen own live then v w) where
  -- no other handle than `h` that counts has the number, where `own` hasn't
  apart_still : (h n : ℕ) → ((k : ℕ) (l : Live) (o : OpenFile) → shown k ≡ true → live k ≡ Some l → v.opens k ≡ Some o → o.number ≡ n → k ≡ h)
      → ((l : Live) (o : OpenFile) → shown own ≡ true → then own ≡ Some l → w.opens own ≡ Some o → o.number ≡ n → own ≡ h)
      → (k : ℕ) (l : Live) (o : OpenFile) → shown k ≡ true → then k ≡ Some l → w.opens k ≡ Some o → o.number ≡ n → k ≡ h
  apart_still h n apart fresh k l o counts is opens e = by (k == own) refl
    where
      by : (b : Bool) → (k == own) ≡ b → k ≡ h
      by true f = let same = equal_keys k own f in same ∙ fresh l o (ap shown (sym same) ∙ counts) (ap then (sym same) ∙ is) (ap w.opens (sym same) ∙ opens) e
      by false f =
          let ne = other_keys k own f in
          let was : live k ≡ Some l = sym (others.lives k ne) ∙ is in
          apart k l o counts was (sym (others.opens k l ne was) ∙ opens) e

  -- An upload with another handle goes on standing.
  pub other_stands : (u : Pending) (s : StandsIn shown live v u) → u.handle ≢ own → KeepsRow v w u.hidden
      → (IsUnseen v s.held.number → IsUnseen w s.held.number) → (Holds w s.held.number → bytes_of w s.held.number ≡ bytes_of v s.held.number)
      → ((l : Live) (o : OpenFile) → shown own ≡ true → then own ≡ Some l → w.opens own ≡ Some o → o.number ≢ s.held.number) → StandsIn shown then w u
  other_stands u s ne kept unseen bytes fresh =
      let (row, at, kind, number) = kept s.row s.at in
      let (l, alive) = some_of (live u.handle) s.lives in
      let opens = others.opens u.handle l ne alive ∙ s.opens in
      let there : row.number ≡ s.held.number = number ∙ s.number in
      let holds : Holds w s.held.number = subst (Holds w) there (inl (numbered w.tree u.hidden row at)) in record {
        lives = subst IsSome (sym (others.lives u.handle ne)) s.lives;
        how = λ l is. s.how l (sym (others.lives u.handle ne) ∙ is);
        file = λ l is. s.file l (sym (others.lives u.handle ne) ∙ is);
        held = s.held;
        opens = opens;
        row = row;
        at = at;
        kind = kind ∙ s.kind;
        number = there;
        hides = s.hides;
        unseen = unseen s.unseen;
        apart = apart_still u.handle s.held.number s.apart (λ l o counts is opens e. absurd (fresh l o counts is opens e));
        whole = λ e. (bytes holds ∙ (s.whole e).0, (s.whole e).1);
      }

  -- ---- the upload that begins

  pub made_stands : (hidden : Names) (h : ℕ) (row : Row) → IsWorld v → is_hidden_path hidden ≡ true → row_at v.tree hidden ≡ None → Edited (makes hidden File []) v w → SameShown v w
      → row_at w.tree hidden ≡ Some row → own ≡ h → IsSome (then h) → ((l : Live) → then h ≡ Some l → l.how ≡ upload_options) → ((l : Live) → then h ≡ Some l → l.kind ≡ row.kind) → w.opens h ≡ Some (at_start row.number)
      → StandsIn shown then w (record { hidden = hidden; handle = h; broken = false; pieces = [] })
  made_stands hidden h row is hides none edited same at owned alive how of opens =
      let made : IsMadeIn v w hidden = made_in v w hidden none edited in
      let one : Some made.row ≡ Some row = sym made.at ∙ at in
      let here : made.row ≡ row = cc in
      let number : made.row.number ≡ row.number = ap (λ (r : Row). r.number) here in
      let above : v.greatest < row.number = subst (λ n. v.greatest < n) number made.above in
      let holds : Holds w row.number = inl (numbered w.tree hidden row at) in record {
        lives = alive;
        how = how;
        file = λ l is_live. of l is_live ∙ (ap (λ (r : Row). r.kind) (sym here) ∙ made.kind);
        held = at_start row.number;
        opens = opens;
        row = row;
        at = at;
        kind = ap (λ (r : Row). r.kind) (sym here) ∙ made.kind;
        number = refl;
        hides = hides;
        unseen = unseen_same v w row.number same (unseen_new v row.number (below_greatest v is) above);
        apart = apart_still h row.number
            (λ k l o counts is_live was e. absurd (let le = is.given.opens k o was in omega (arith, le, above, e)))
            (λ l o counts is_live now e. owned);
        whole = λ e. (sym (ap (bytes_of w) refl) ∙ (subst (λ n. bytes_of w n ≡ []) number (made.empty (subst (Holds w) (sym number) holds))), refl);
      }

  -- ---- the upload whose file is written

  -- what its file holds now, by what its handle has open
  pub written_stands : (u : Pending) (wrong : Bool) (all : List ℕ) (s : StandsIn shown live v u) (now : OpenFile) (bytes : List ℕ) → own ≡ u.handle
      → Edited (fills s.held.number bytes) v w → then u.handle ≡ live u.handle → w.opens u.handle ≡ Some now → now.number ≡ s.held.number → (wrong ≡ false → (bytes ≡ all) × (now.place ≡ length all))
      → StandsIn shown then w (record u { broken = wrong; pieces = all })
  written_stands u wrong all s now bytes owned edited alive opens number whole =
      let (row, at, kind, numbers) = kept_filled v w s.held.number bytes u.hidden edited s.row s.at in
      let there : row.number ≡ now.number = numbers ∙ (s.number ∙ sym number) in
      let holds : Holds w s.held.number = subst (Holds w) (there ∙ number) (inl (numbered w.tree u.hidden row at)) in record {
        lives = subst IsSome (sym alive) s.lives;
        how = λ l is. s.how l (sym alive ∙ is);
        file = λ l is. s.file l (sym alive ∙ is);
        held = now;
        opens = opens;
        row = row;
        at = at;
        kind = kind ∙ s.kind;
        number = there;
        hides = s.hides;
        unseen = subst (IsUnseen w) (sym number) (unseen_same v w s.held.number (filled_unseen v w s.held.number bytes s.unseen edited) s.unseen);
        apart = λ k l o counts is_live was e. apart_still u.handle s.held.number s.apart (λ l o counts is_live was e. owned) k l o counts is_live was (e ∙ number);
        whole = λ e. (ap (bytes_of w) number ∙ (filled_bytes s.held.number bytes v w edited holds ∙ (whole e).0), (whole e).1);
      }
    where
      filled_bytes : (n : ℕ) (bytes : List ℕ) (v w : World) → Edited (fills n bytes) v w → Holds w n → bytes_of w n ≡ bytes
      filled_bytes n bytes v w (inl (is, same)) holds = same_keep v w n same holds ∙ sym is
      filled_bytes n bytes v w (inr (other, t, new, becomes)) holds =
          ap (λ o. elim o as (λ x. List ℕ) [ None ↦ [] | Some stored ↦ stored.bytes ]) ((becomes.files n holds).1 ∙ put_same n (Some (record { bytes = bytes; time = t })) v.files)

-- What stands where some handles count stands where others do, as long as each live one of those counted.
pub stands_counted : (shown counts : ℕ → Bool) (live : ℕ → Option Live) (w : World) (u : Pending) → ((k : ℕ) (l : Live) → counts k ≡ true → live k ≡ Some l → shown k ≡ true)
    → StandsIn shown live w u → StandsIn counts live w u
stands_counted shown counts live w u fewer s = record {
  lives = s.lives;
  how = s.how;
  file = s.file;
  held = s.held;
  opens = s.opens;
  row = s.row;
  at = s.at;
  kind = s.kind;
  number = s.number;
  hides = s.hides;
  unseen = s.unseen;
  apart = λ k l o is alive opens. s.apart k l o (fewer k l is alive) alive opens;
  whole = s.whole;
}
