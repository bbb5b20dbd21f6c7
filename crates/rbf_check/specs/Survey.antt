-- What the rules find in an image that breaks none of them.
use Rattle.std.specs.Prelude.{◌≡◌, ℕ, List}
use Rattle.rbf_model.specs.Keeps.{Keeps}
use Rattle.rbf_check.specs.declared.survey.Survey.{Survey}
use Rattle.rbf_sector_rules.specs.Reading.{disk_on}
use Rattle.rbf_sector_rules.specs.Files.{AreFiles}
use Rattle.rbf_sector_rules.specs.Linked.{AreLinks}

-- the reached files and the links of an image that keeps the rules
pub record IsSurvey (survey : Survey) : Type 0 where
  pub files : AreFiles survey.image survey.files.items
  pub links : AreLinks (disk_on survey.image) survey.links.items
  pub kept : Keeps (disk_on survey.image)

-- a survey of these bytes
pub record IsSurveyOf (bytes : List ℕ) (survey : Survey) : Type 0 where
  pub bytes_are : survey.image.bytes.now ≡ bytes
  pub is : IsSurvey survey
