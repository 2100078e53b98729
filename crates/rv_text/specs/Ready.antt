-- What is asked of linear code whose text is an image, beside that no run of it is stuck.
use Rattle.std.specs.Prelude.{◌<◌, ◌≤◌, length, All}
use Rattle.tu_base.specs.declared.limits.TheConstants.{MOST_TEXT_WORDS}
use Rattle.rv_flat.specs.declared.linear.Linear.{Linear}
use Rattle.rv_layout.specs.Ready.{IsReadyCode}
use Rattle.rv_text.specs.Text.{text_of}

-- ready code, whose text is not longer than an image may have it
pub record IsReady (l : Linear) : Type 0 where
  pub code : IsReadyCode l
  pub texts : All (λ b. b < 256) l.texts
  pub size : length (text_of l) ≤ MOST_TEXT_WORDS
