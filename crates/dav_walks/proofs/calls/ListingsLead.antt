-- What a method that writes makes of a listing is one step of its calls.
-- Headlines: `listed_on` and `unread_on`.
use Rattle.std.proofs.Common.{List, [], ◌∷◌, ◌++◌, None, Ok, Err, inl, inr}
use Rattle.dav_core.specs.declared.error.FsError.{FsError}
use Rattle.dav_core.specs.DavPath.{WebPath}
use Rattle.dav_store.specs.declared.entry.ReadDirMeta.TheVariants.{DataSymlink}
use Rattle.dav_store.specs.Leads.{ListedOn, ListedThrough, goes_on}
use Rattle.dav_store.specs.View.{Listings, View}
use Rattle.dav_store.proofs.Leading.{walked_on}
use Rattle.dav_walks.specs.declared.child.Child.{Child}
use Rattle.dav_walks.specs.Follows.{Reached, listed, unlisted}
use Rattle.dav_walks.specs.Pouring.{Writes}
use Rattle.dav_walks.specs.Reading.{Listed, MembersUnread, ReadRefused}

module _ {S C F L E : Type 0} (view : View S C F) (lists : Listings S C L E) where
  refused_on : (s : S) (l : L) (e : FsError) (t : S) (over : L) → ReadRefused view lists s l e t over → ListedOn view lists s l t over
  refused_on s l e t over (inl (is, answers, walk)) = walked_on view lists s l answers t over walk
  refused_on s l e t over (inr (inl (answers, place, left, walk, said, ends))) = goes_on place t left over (Err e) (walked_on view lists s l answers place left walk) ends
  refused_on s l e t over (inr (inr (answers, name, said, walk))) = walked_on view lists s l (answers ++ record { name = name; meta = Err e } ∷ []) t over walk

  listed_through : (s : S) (c : C) (path : WebPath) (members : List Child) (t : S) → Listed view lists s c path members t → ListedThrough view lists DataSymlink s c path t
  listed_through s c path members t was =
      let reads = was.reads in
      record {
        begin = was.begin;
        listing = was.listing;
        begins = was.begins;
        after = was.after;
        over = was.over;
        on = goes_on reads.place was.after reads.left was.over (Ok None) (walked_on view lists was.begin was.listing reads.answers reads.place reads.left reads.walk) reads.ends;
        ended = was.ended;
      }

module _ {S C F L E : Type 0} (view : View S C F) (lists : Listings S C L E) (writes : Writes F) (c : C) (s : S) where
  pub listed_on : (m t : S) (path : WebPath) (members : List Child) → Reached view lists writes c s m → Listed view lists m c path members t → Reached view lists writes c s t
  listed_on m t path members came was = listed m t path came (listed_through view lists m c path members t was)

  pub unread_on : (m t : S) (path : WebPath) (e : FsError) → Reached view lists writes c s m → MembersUnread view lists m c path e t → Reached view lists writes c s t
  unread_on m t path e came (inl (is, members, was)) = listed_on m t path members came was
  unread_on m t path e came (inr (inl refused)) = unlisted m t path e came refused
  unread_on m t path e came (inr (inr (begin, after, listing, over, begins, refused, ended))) = listed m t path came (record {
    begin = begin;
    listing = listing;
    begins = begins;
    after = after;
    over = over;
    on = refused_on view lists begin listing e after over refused;
    ended = ended;
  })
