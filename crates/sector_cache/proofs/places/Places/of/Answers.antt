use Rattle.std.proofs.Common.{◌∙◌, rules, sym, ap}
use Rattle.std.proofs.lemmas.Bool.{false≢true}
use Rattle.std.proofs.lemmas.List.{get_or-replicate}
use Rattle.sector_cache.specs.Inside.{has_sector}
use Rattle.sector_cache.proofs.Counted.{none_counted}
use Rattle.sector_cache.proofs.places.Places.of.Goals as goal

pub returns-clause-indexed : goal.returns-clause-indexed
returns-clause-indexed c = record {
  long = search rules;
  halves_are = λ drive lsn n is. absurd (false≢true (sym (ap (has_sector drive lsn) (c.requires n)) ∙ is));
  counted = λ part low. get_or-replicate 1024 part 0 0 low ∙ sym (none_counted part c.args.sectors.items c.requires);
  none_empty = λ is. absurd (false≢true is);
}
