use Rattle.std.proofs.Common.{[], refl, inl, codes, arith}
use Rattle.rbf_model.specs.Space.{owned, has_cluster}
use Rattle.rbf_model.specs.Volume.{is_free}
use Rattle.rbf_change.specs.NewFiles.{Creates}
use Rattle.file_rules.specs.Rows.{noon, volume_e, volume_new, root_with, root_new, file_new, four_drives, new_opened}
use Rattle.file_rules.proofs.fault_rows.a_file_is_created.Goals as goal

-- the file takes cluster 4, and its entry the first place behind those that the root has
is_created : Creates volume_e volume_new 2 4 (codes "New") 0 0 noon
unfolding is_free has_cluster owned
is_created = record {
  both = record {
    old = root_with [];
    new = root_new;
    file = file_new;
    is = refl;
    made = record {
      cluster = 4;
      first = refl;
      taken = refl;
      gained = [];
      choice = record { enough = refl; gained = tt; fits = omega arith };
      is = refl;
    };
    entry = record {
      gained = [];
      choice = record { enough = refl; gained = tt; fits = omega arith };
      file = refl;
    };
  };
  volume = refl;
}

pub returns : goal.returns
unfolding is_free has_cluster owned
returns c = λ terms. inl (record {
  it = new_opened;
  does = (
    inl (record {
      old = volume_e;
      is = refl;
      new = volume_new;
      number = 4;
      makes = is_created;
      effect_is = refl;
    }),
    refl,
  );
  drives = four_drives;
  none_failed = refl;
  effect_is = refl;
})
