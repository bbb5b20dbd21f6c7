use Rattle.std.proofs.Common.{sym, ap, ◌∙◌}
use Rattle.std.specs.Prelude.{Ok}
use Rattle.os9_console.proofs.laws.a_boot_over_the_record_has_the_setup_of_the_session.Goals as goal

pub returns : goal.returns
returns c = record {
  setup = λ old now boot typed setup sets give images. record {
    words = record {
      texts = record { script = give.keys ∙ ap Ok (sym sets.keys); slice_text = give.slices ∙ ap Ok (sym sets.slices) };
      blocks = sets.blocks;
      time = sets.time;
    };
    images = sets.images ∙ sym images;
    volumes = sets.volumes;
    file = sets.file;
  };
}
