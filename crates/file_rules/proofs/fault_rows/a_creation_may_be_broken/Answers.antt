use Rattle.std.proofs.Common.{ℕ, zero, suc, ◌≡◌, ◌≢◌, refl, inr, arith}
use Rattle.os9_base.specs.declared.errors.TheConstants.{E_WRITE}
use Rattle.rbf_model.specs.Space.{owned, has_cluster}
use Rattle.rbf_model.specs.Volume.{is_free}
use Rattle.rbf_change.specs.Faults.{before}
use Rattle.file_rules.specs.Files.{drive_at}
use Rattle.file_rules.specs.Rows.{volume_e, d0_failed, four_drives}
use Rattle.file_rules.proofs.fault_rows.a_creation_may_be_broken.Goals as goal

-- D0 alone has failed
others_stand : (other : ℕ) → other ≢ 0 → drive_at d0_failed other ≡ drive_at four_drives other
others_stand zero ne = absurd (ne refl)
others_stand (suc n) ne = refl

pub returns : goal.returns
unfolding is_free has_cluster owned
returns c = λ terms. inr (
  record {
    drive = 0;
    reached = refl;
    number = E_WRITE;
    drives = d0_failed;
    failed = record {
      rose = omega arith;
      never_falls = omega arith;
      last = refl;
      others = others_stand;
      as_many = refl;
    };
    old = volume_e;
    is = refl;
    left = volume_e;
    may_be = before refl;
    effect_is = refl;
  },
  refl,
)
