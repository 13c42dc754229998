-- An input is stored by an upload, over the calls of any store.
use Rattle.std.specs.Prelude.{◌≡◌, ◌≤◌, ◌<◌, ◌+◌, ◌-◌, ◌%◌, ◌^◌, ◌++◌, ◌⊎◌, ℕ, List, [], take, Bool, true, false, Result, Ok, Err}
use Rattle.dav_io.specs.declared.failure.Failed.{Failed}
use Rattle.dav_io.specs.Outside.{Stream, Takes}
use Rattle.dav_core.specs.DavPath.{WebPath}
use Rattle.dav_store.specs.View.{View}
use Rattle.dav_model.specs.declared.outcome.Outcome.{Outcome}
use Rattle.dav_model.specs.Conditions.{Fields}
use Rattle.dav_walks.specs.Pouring.{Writes}
use Rattle.dav_put.specs.declared.storing.Stop.{Stop}
use Rattle.dav_put.specs.declared.storing.Stop.TheVariants.{Refused, SourceFailed, TooMuch}
use Rattle.dav_upload.specs.declared.error.UploadError.{UploadError}
use Rattle.dav_upload.specs.declared.error.UploadError.TheVariants.{Busy}
use Rattle.dav_upload.specs.declared.upload.Upload.{Upload}
use Rattle.dav_upload.specs.Uploading.{Aborts, Begins, Commits, WritesPiece}

-- A source was asked once, and gave these bytes.
abbrev pub Gives : Stream → List ℕ → Stream → Type 0
Gives i piece j = (buffer : List ℕ) × (n : ℕ) × Takes i buffer (Ok n) j × (0 < n) × (piece ≡ take n buffer)

-- It was asked once, and was at its end.
abbrev pub IsOver : Stream → Stream → Type 0
IsOver i j = (buffer : List ℕ) × Takes i buffer (Ok 0) j

-- It was asked once, and failed.
abbrev pub Fails : Stream → Stream → Type 0
Fails i j = (buffer : List ℕ) × (failed : Failed) × Takes i buffer (Err failed) j

-- where an input goes into an upload: the store, the upload and the source
pub record Feed (S F : Type 0) : Type 0 where
  pub store : S
  pub upload : Upload F
  pub source : Stream

module _ {S C F : Type 0} (view : View S C F) (writes : Writes F) where
  -- So many pieces that a source gave were written, each as it came: these bytes in all.
  pub data Fed (p : Feed S F) : ℕ → List ℕ → Feed S F → Type 0 where
    begun : Fed p 0 [] p
    goes : (count : ℕ) (bytes piece : List ℕ) (m n : Feed S F) → Fed p count bytes m → Gives m.source piece n.source
        → WritesPiece view writes m.upload piece m.store (Ok tt) n.store n.upload
        → Fed p (count + 1) (bytes ++ piece) n

  -- Behind so many pieces the source is at its end, failed, or gave as many as are counted; or a piece that it gave was
  -- refused.
  abbrev pub Stops : ℕ → Feed S F → Result Unit Stop → Feed S F → Type 0
  Stops count p (Ok x) q = IsOver p.source q.source × (q.store ≡ p.store) × (q.upload ≡ p.upload)
  Stops count p (Err SourceFailed) q = Fails p.source q.source × (q.store ≡ p.store) × (q.upload ≡ p.upload)
  Stops count p (Err TooMuch) q = (count ≡ 2 ^ 64 - 1) × (q ≡ p)
  Stops count p (Err (Refused e)) q = (piece : List ℕ) × Gives p.source piece q.source
      × WritesPiece view writes p.upload piece p.store (Err e) q.store q.upload

  -- An input goes into an upload, up to its end or the first refusal.
  pub record Pours (p : Feed S F) (result : Result Unit Stop) (q : Feed S F) : Type 0 where
    pub count : ℕ
    pub bytes : List ℕ
    pub middle : Feed S F
    pub fed : Fed p count bytes middle
    pub stops : Stops count middle result q

-- Where an input is to be stored: at a path, as a PUT with these fields may, and with a hidden name of this token, or of
-- those behind it.
pub record Aim : Type 0 where
  pub target : WebPath
  pub fields : Fields
  pub token : ℕ

-- the hidden name of a token stands already
abbrev pub is_busy : UploadError → Bool
is_busy (Busy name) = true
is_busy e = false

-- the token that is tried after so many others: they begin anew behind the last
abbrev pub token_after : ℕ → ℕ → ℕ
token_after first tries = (first + tries) % 2 ^ 64

module _ {S C F : Type 0} (view : View S C F) (writes : Writes F) (c : C) where
  -- Uploads of the target with so many tokens were refused, since their hidden names stand.
  pub data Tried (aim : Aim) (s : S) : ℕ → S → Type 0 where
    none : Tried aim s 0 s
    more : (tries : ℕ) (name : List ℕ) (m n : S) → Tried aim s tries m
        → Begins view c aim.target aim.fields (token_after aim.token tries) m (Err (Busy name)) n
        → Tried aim s (tries + 1) n

  -- An upload began with a token, or was refused, after others whose hidden names stood: 16 of them, where that was the
  -- last refusal too.
  pub record BeginsSome (aim : Aim) (s : S) (result : Result (Upload F) UploadError) (t : S) : Type 0 where
    pub tries : ℕ
    pub few : tries ≤ 16
    pub middle : S
    pub tried : Tried aim s tries middle
    pub begins : Begins view c aim.target aim.fields (token_after aim.token tries) middle result t
    pub last : (name : List ℕ) → result ≡ Err (Busy name) → tries ≡ 16

  -- What follows where the input went into the upload, or not: it is committed, or given up.
  abbrev pub Ends : Result Unit Stop → Upload F → Fields → S → Result Outcome Stop → S → Type 0
  Ends (Ok x) u fields s (Ok outcome) t = Commits view c u fields s (Ok outcome) t
  Ends (Ok x) u fields s (Err (Refused e)) t = Commits view c u fields s (Err e) t
  Ends (Ok x) u fields s (Err SourceFailed) t = ⊥
  Ends (Ok x) u fields s (Err TooMuch) t = ⊥
  Ends (Err stop) u fields s result t = (answer : Result Unit UploadError) × Aborts view c u s answer t
      × (result ≡ Err stop)

  -- An upload begins, the input goes into it, and then it ends.
  pub record StoresBegun (aim : Aim) (s : S) (i : Stream) (result : Result Outcome Stop) (t : S) (j : Stream)
      : Type 0 where
    pub upload : Upload F
    pub begun : S
    pub begins : BeginsSome aim s (Ok upload) begun
    pub poured : Result Unit Stop
    pub full : S
    pub left : Upload F
    pub pours : Pours view writes (record { store = begun; upload = upload; source = i }) poured
        (record { store = full; upload = left; source = j })
    pub ends : Ends poured left aim.fields full result t

  -- An input is stored by an upload that begins with it. Where none begins the source isn't asked.
  abbrev pub Stores : Aim → S → Stream → Result Outcome Stop → S → Stream → Type 0
  Stores aim s i result t j =
      ((e : UploadError) × BeginsSome aim s (Err e) t × (result ≡ Err (Refused e)) × (j ≡ i))
      ⊎ StoresBegun aim s i result t j
