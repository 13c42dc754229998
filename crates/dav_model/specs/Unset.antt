-- Settings of which none is set.
use Rattle.std.specs.Prelude.{[], None}
use Rattle.dav_model.specs.declared.settings.Settings.{Settings}

abbrev pub nothing_set : Settings
nothing_set = record {
  prefix = [];
  allow = None;
  principal = None;
  hide_symlinks = None;
  autoindex = None;
  indexfile = None;
  read_buf_size = None;
  redirect = None;
}
