-- What a cache opened for reading is what the store inside opened, but for the bytes that are held of it: in every run, also where tags lie.
use Rattle.std.specs.Prelude.{◌≡◌, ◌⊎◌, Bool, true, false, cond, Option, None, Some, Result, Ok, Err, refl}
use Rattle.std.proofs.Common.{sym, ap, subst, ◌∙◌, inl, inr}
use Rattle.dav_io.specs.declared.failure.NoMemory.{NoMemory}
use Rattle.dav_core.specs.declared.error.FsError.{FsError}
use Rattle.dav_core.specs.declared.error.FsError.TheVariants as fs
use Rattle.dav_core.specs.Disk.{DiskState}
use Rattle.dav_core.specs.Tree.{is_file}
use Rattle.dav_store.specs.Files.{Spoiled}
use Rattle.dav_store.specs.Shows.{IsThere, OpensThere}
use Rattle.dav_store.specs.Standing.{Seen, Standing}
use Rattle.dav_store.specs.View.{View, seen_in}
use Rattle.dav_model.specs.Head.{Stood}
use Rattle.dav_get.specs.Told.{stood_of}
use Rattle.dav_readcache.specs.declared.cached.CachedFile.{CachedFile}
use Rattle.dav_readcache.specs.declared.cached.Content.{Content}
use Rattle.dav_readcache.specs.declared.cached.Reading.{Reading}
use Rattle.dav_readcache.specs.declared.store.ReadCache.{ReadCache}
use Rattle.dav_readcache.specs.Cached.{cached_file, is_of, shown}
use Rattle.dav_readcache.specs.Opening.{AfterOpen, EndsOpen, Holds, Opening}
use Rattle.dav_readcache.specs.Shelf.{ShelfState}
use Rattle.dav_local_laws.specs.ReadsByRules.{OpensAlike}
use Rattle.dav_readcache.proofs.KeptOpen.{kept_shown}

-- ---- a standing with the bytes that are held

pub same_stood : (content : Option Content) (there : Standing) → stood_of (shown content there) ≡ stood_of there
same_stood None there = refl
same_stood (Some c) there = by (is_of c there.kind there.tag)
  where
    by : (b : Bool) → stood_of (cond b (record there { bytes = c.bytes }) there) ≡ stood_of there
    by true = refl
    by false = refl

same_number : (content : Option Content) (there : Standing) → (shown content there).number ≡ there.number
same_number content there = ap (λ (x : Stood). x.number) (same_stood content there)

same_kind : (content : Option Content) (there : Standing) → (shown content there).kind ≡ there.kind
same_kind content there = ap (λ (x : Stood). x.kind) (same_stood content there)

-- ---- what is opened

module _ {S C F : Type 0} (view : View S C F) where
  abbrev pub Alike : Result Standing FsError → DiskState → Result (CachedFile F) FsError → DiskState → Type 0
  Alike opened s o t = OpensAlike (cached_file view.file).seen opened s o t

  is_there : (content : Option Content) (there : Standing) (f : Seen) → IsThere there f → IsThere (shown content there) (record { stands = shown content f.stands; place = 0 })
  is_there content there f is = record {
    number = same_number content f.stands ∙ (is.number ∙ sym (same_number content there));
    kind = same_kind content f.stands ∙ (is.kind ∙ sym (same_kind content there));
    place = refl;
    file = λ regular. ap (λ (x : Seen). record { stands = shown content x.stands; place = 0 }) (is.file (ap is_file (sym (same_kind content there)) ∙ regular));
  }

  err_is : {A : Type 0} (a b : FsError) → ◌≡◌ {A = Result A FsError} (Err a) (Err b) → a ≡ b
  err_is a b e = cc

  refused_alike : (opened : Result Standing FsError) (e : FsError) (s t : DiskState) → OpensThere {F = F} view.file.seen opened (Err e) t ⊎ Spoiled {T = F} s (Err e) t → Alike opened s (Err e) t
  refused_alike (Ok there) e s t (inl never) = absurd never
  refused_alike (Err x) e s t (inl same) = record { stands = Err x; alike = refl; there = inl same }
  refused_alike opened e s t (inr (inl (is, rose))) = record { stands = opened; alike = refl; there = inr (inl (ap (λ x. Err x) (err_is {A = F} e fs.GeneralFailure is), rose)) }
  refused_alike opened e s t (inr (inr is)) = record { stands = opened; alike = refl; there = inr (inr (ap (λ x. Err x) (err_is {A = F} e fs.NoMemory is))) }

  held_alike : (there : Standing) (f : Seen) (held : Result Reading NoMemory) (p q : Opening S F) (result : Result (CachedFile F) FsError) (t : S) (shelf : ShelfState) (s : DiskState) → IsThere there f → seen_in view p.store p.file ≡ Some f
      → Holds view p held q → EndsOpen view held q result t shelf → Alike (Ok there) s result (view.state t)
  held_alike there f (Ok r) p q result t shelf s is seen holds ends =
      let at : Seen = record { stands = shown r.content f.stands; place = 0 } in
      let same = kept_shown f view r p q is.place seen holds in
      record {
        stands = Ok (shown r.content there);
        alike = ap (λ x. Ok x) (same_stood r.content there);
        there = inl (subst (λ x. OpensThere (cached_file view.file).seen (Ok (shown r.content there)) x (view.state t)) (sym ends.0)
            (subst (λ x. OpensThere (cached_file view.file).seen (Ok (shown r.content there)) (Ok (record { file = q.file; reading = Some r })) (view.state x)) (sym ends.1) (at, same, is_there r.content there f is)));
      }
  held_alike there f (Err x) p q result t shelf s is seen holds ends = record { stands = Ok there; alike = refl; there = inr (inr ends.0) }

  pub opened_alike : (opened : Result Standing FsError) (o : Result F FsError) (k : S) (m n : ReadCache S C) (result : Result (CachedFile F) FsError)
      → OpensThere view.file.seen opened o (view.state k) ⊎ Spoiled (view.state m.store) o (view.state k) → AfterOpen view o k m result n → Alike opened (view.state m.store) result (view.state n.store)
  opened_alike opened (Err e) k m n result there after =
      subst (λ x. Alike opened (view.state m.store) x (view.state n.store)) (sym after.0)
      (subst (λ (x : ReadCache S C). Alike opened (view.state m.store) (Err e) (view.state x.store)) (sym after.1) (refused_alike opened e (view.state m.store) (view.state k) there))
  opened_alike opened (Ok file) k m n result (inr (inl (is, rose))) after = cc
  opened_alike opened (Ok file) k m n result (inr (inr is)) after = cc
  opened_alike (Err e) (Ok file) k m n result (inl never) after = absurd never
  opened_alike (Ok there) (Ok file) k m n result (inl (f, seen, is)) (opens, same) =
      held_alike there f opens.held (record { store = k; file = file; shelf = m.shelf }) opens.at result n.store n.shelf (view.state m.store) is seen opens.holds opens.ends
