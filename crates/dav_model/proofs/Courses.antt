-- The courses that are taken about what stands at a path, one by one.
use Rattle.std.proofs.Common.{◌≡◌, ℕ, List, Bool, true, false, cond, Option, None, Some, refl, subst}
use Rattle.dav_core.specs.declared.tree.Kind.{Kind}
use Rattle.dav_core.specs.declared.tree.Kind.TheVariants.{Dir, File, Link}
use Rattle.dav_core.specs.DavPath.{WebPath}
use Rattle.dav_core.specs.Path.{is_plain}
use Rattle.dav_core.specs.Tree.{is_dir}
use Rattle.dav_model.specs.Due.{Course, OfItsPaths, Query, course, dir_course, directing, index_course, index_path, listing, may_list, opening, refusing}

-- What holds of each course that may be taken holds of the one that is.
pub record HoldsOfCourses (q : Query) (P : Course → Type 0) : Type 0 where
  pub directs : P directing
  pub lists : P listing
  pub unlisted : P (refusing 405 true)
  pub unnamed : P (refusing 404 false)
  pub opens : OfItsPaths q (λ at. P (opening at))

pub course_holds : (q : Query) (P : Course → Type 0) → HoldsOfCourses q P → (kind : Kind) → P (course q kind)
course_holds q P all kind = by_dir (is_dir kind)
  where
    by_page : (b : Bool) → P (cond b listing (refusing 405 true))
    by_page true = all.lists
    by_page false = all.unlisted

    by_plain : (b : Bool) (name : List ℕ) → q.path.slash ≡ true → q.settings.indexfile ≡ Some name → P (cond b (opening (index_path q.path name)) (refusing 404 false))
    by_plain true name slash set = all.opens.index slash name set
    by_plain false name slash set = all.unnamed

    by_index : (index : Option (List ℕ)) → q.path.slash ≡ true → q.settings.indexfile ≡ index → P (index_course q index)
    by_index None slash set = by_page (may_list q.settings.autoindex q.settings.allow)
    by_index (Some name) slash set = by_plain (is_plain name) name slash set

    by_slash : (slash : Bool) → q.path.slash ≡ slash → P (dir_course q slash)
    by_slash false is = all.directs
    by_slash true is = by_index q.settings.indexfile is refl

    by_dir : (dir : Bool) → P (cond dir (dir_course q q.path.slash) (opening q.path))
    by_dir true = by_slash q.path.slash refl
    by_dir false = all.opens.path

same_path : (a b : WebPath) → opening a ≡ opening b → a ≡ b
same_path a b e = cc

-- What is opened is at the path that is asked for, or at that of the index file.
pub at_opened : (q : Query) (P : WebPath → Type 0) → OfItsPaths q P → (kind : Kind) (at : WebPath) → course q kind ≡ opening at → P at
at_opened q P both kind at is =
    course_holds q (λ c. c ≡ opening at → P at) (record {
      directs = λ e. cc;
      lists = λ e. cc;
      unlisted = λ e. cc;
      unnamed = λ e. cc;
      opens = record {
        path = λ e. subst P (same_path q.path at e) both.path;
        index = λ slash name set e. subst P (same_path (index_path q.path name) at e) (both.index slash name set);
      };
    }) kind is

-- A directory alone is listed.
pub listed_kind : (q : Query) (kind : Kind) → course q kind ≡ listing → course q Dir ≡ listing
listed_kind q Dir is = is
listed_kind q File is = cc
listed_kind q Link is = cc
