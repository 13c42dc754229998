-- What is due to a GET or HEAD, by what is asked and what is shown, and which reply is right for it.
use Rattle.std.specs.Prelude.{◌≡◌, ◌⊎◌, ℕ, List, [], ◌∷◌, ◌++◌, Bool, true, false, cond, Option, None, Some, Result, Ok, Err}
use Rattle.dav_core.specs.declared.tree.Kind.{Kind}
use Rattle.dav_core.specs.declared.tree.Kind.TheVariants.{Dir, File, Link}
use Rattle.dav_core.specs.declared.error.FsError.{FsError}
use Rattle.dav_core.specs.declared.member.Member.{Member}
use Rattle.dav_core.specs.declared.method.DavMethod.{DavMethod}
use Rattle.dav_core.specs.declared.method.DavMethod.TheVariants.{PropFind}
use Rattle.dav_core.specs.declared.method.DavMethodSet.{DavMethodSet}
use Rattle.dav_core.specs.DavPath.{WebPath}
use Rattle.dav_core.specs.Methods.{is_in}
use Rattle.dav_core.specs.Path.{is_plain}
use Rattle.dav_core.specs.Statuses.{fs_status}
use Rattle.dav_core.specs.Tree.{is_dir}
use Rattle.dav_page.specs.Listed.{AreRows}
use Rattle.dav_model.specs.declared.settings.Settings.{Settings}
use Rattle.dav_model.specs.declared.sent.Sent.TheVariants.{Unsatisfied}
use Rattle.dav_model.specs.Conditions.{Fields}
use Rattle.dav_model.specs.Head.{Reply, Stood, refusal, refused_with, directed, is_get, is_well_known, well_known, address_of, IsFileHead, IsSent, sent_of, sent_status}
use Rattle.dav_model.specs.Indexes.{AreRowsOfSome, IsIndexReply}
use Rattle.dav_model.specs.Shown.{Shown}

-- what is asked of a path
pub record Query : Type 0 where
  pub settings : Settings
  pub method : DavMethod
  pub path : WebPath
  pub fields : Fields

-- ---- what is done about what stands at a path

-- What is done where something was found: an error answer, and whether the connection closes; the client is sent to the
-- same path with a final slash; a file is opened, by the path that names it; or the directory is listed.
pub data Course : Type 0 where
  refusing : ℕ → Bool → Course
  directing : Course
  opening : WebPath → Course
  listing : Course

-- the path of a file in a directory
abbrev pub index_path : WebPath → List ℕ → WebPath
index_path dir name = record dir { names = dir.names ++ name ∷ []; slash = false }

abbrev pub has_propfind : Option DavMethodSet → Bool
has_propfind None = false
has_propfind (Some allowed) = is_in allowed PropFind

-- A page is permitted where the settings say so; where they don't, if PROPFIND is among the methods that are set.
abbrev pub may_list : Option Bool → Option DavMethodSet → Bool
may_list (Some on) allow = on
may_list None allow = has_propfind allow

-- a directory of which a page is asked
abbrev pub page_course : Settings → Course
page_course settings = cond (may_list settings.autoindex settings.allow) listing (refusing 405 true)

-- A directory's index file is opened where one is set. Under a name that isn't plain nothing stands.
abbrev pub index_course : Query → Option (List ℕ) → Course
index_course q None = page_course q.settings
index_course q (Some name) = cond (is_plain name) (opening (index_path q.path name)) (refusing 404 false)

abbrev pub dir_course : Query → Bool → Course
dir_course q false = directing
dir_course q true = index_course q q.settings.indexfile

-- What isn't a directory is opened.
abbrev pub course : Query → Kind → Course
course q kind = cond (is_dir kind) (dir_course q q.path.slash) (opening q.path)

-- What holds of the path that is asked for, and of the path of the index file where one may stand for it.
pub record OfItsPaths (q : Query) (P : WebPath → Type 0) : Type 0 where
  pub path : P q.path
  pub index : q.path.slash ≡ true → (name : List ℕ) → q.settings.indexfile ≡ Some name → P (index_path q.path name)

-- ---- what is due

-- What a GET or HEAD is answered with, before its head is made.
pub data Due : Type 0 where
  -- the page of a well-known server, which is there whatever stands in the tree
  known : Due
  -- an error answer; whether the connection closes
  refused : ℕ → Bool → Due
  -- this path with a final slash
  to_slash : WebPath → Due
  -- a regular file, by the path that names it
  file : WebPath → Stood → Due
  -- the page of a directory with these members
  page : WebPath → List Member → Due

-- What is opened is sent where it is a regular file.
abbrev pub due_sent : Kind → WebPath → Stood → Due
due_sent Dir path stood = refused 405 false
due_sent File path stood = file path stood
due_sent Link path stood = refused 405 false

abbrev pub due_opened : WebPath → Result Stood FsError → Due
due_opened path (Err e) = refused (fs_status e) false
due_opened path (Ok stood) = due_sent stood.kind path stood

abbrev pub due_listed : WebPath → Result (List Member) FsError → Due
due_listed path (Err e) = refused (fs_status e) false
due_listed path (Ok members) = page path members

abbrev pub due_course : Shown → WebPath → Course → Due
due_course shown path (refusing status close) = refused status close
due_course shown path directing = to_slash path
due_course shown path (opening at) = due_opened at (shown.opened at)
due_course shown path listing = due_listed path (shown.listed path)

abbrev pub due_kind : Shown → Query → Kind → Due
due_kind shown q kind = due_course shown q.path (course q kind)

abbrev pub due_looked : Shown → Query → Result Stood FsError → Due
due_looked shown q (Err e) = refused (fs_status e) false
due_looked shown q (Ok stood) = due_kind shown q stood.kind

-- The table of GET and HEAD.
abbrev pub due : Shown → Query → Due
due shown q = cond (is_well_known q.settings q.method q.path) known (due_looked shown q (shown.looked q.path))

-- the one right answer
abbrev pub IsHead : Query → Due → Reply → Type 0
IsHead q known reply = reply ≡ well_known
IsHead q (refused status close) reply = reply ≡ refusal q.fields status close
IsHead q (to_slash path) reply = reply ≡ directed path
IsHead q (file path stood) reply = IsFileHead (address_of q.settings stood) q.method q.fields path stood reply
IsHead q (page dir members) reply = IsIndexReply (is_get q.method) dir (AreRows dir members) reply

-- Of a file of which parts were due, and which couldn't be placed at the first: no range could be met.
pub record IsUnplaced (q : Query) (path : WebPath) (stood : Stood) (reply : Reply) : Type 0 where
  pub here : address_of q.settings stood ≡ None
  pub partial : sent_status (sent_of q.method q.fields stood) ≡ 206
  pub sent : IsSent q.method path stood Unsatisfied reply

-- the answer where the disk failed
abbrev pub failure : Reply
failure = refused_with false 500 false

-- what may stand in its place where the disk failed
abbrev pub IsSpoiled : Query → Due → Reply → Type 0
IsSpoiled q known reply = ⊥
IsSpoiled q (refused status close) reply = reply ≡ failure
IsSpoiled q (to_slash path) reply = reply ≡ failure
IsSpoiled q (file path stood) reply = (reply ≡ failure) ⊎ IsUnplaced q path stood reply
IsSpoiled q (page dir members) reply = (reply ≡ failure)
    ⊎ IsIndexReply (is_get q.method) dir (AreRowsOfSome dir members) reply

-- The right reply to a GET or HEAD over what is shown, or what may stand in its place where a fault was met.
abbrev pub IsRight : Query → Shown → Type 0 → Reply → Type 0
IsRight q shown rose reply = IsHead q (due shown q) reply ⊎ (IsSpoiled q (due shown q) reply × rose)

abbrev pub query : Settings → Fields → DavMethod → WebPath → Query
query settings fields method path = record { settings = settings; method = method; path = path; fields = fields }
