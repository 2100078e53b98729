-- What `exec` reads the bytes of a file as. A second form of image file is to stand here beside the first.
use Rattle.std.specs.Prelude.{ℕ, List, Result}
use Rattle.rv_image.specs.Picture.{Picture, IsImage}
use Rattle.rv_image.specs.Reading.{reading}
use Rattle.rv_image.specs.declared.image.ImageError.{ImageError}

-- the image, or why the bytes are none
abbrev pub image_file_reading : List ℕ → Result Picture ImageError
image_file_reading bytes = reading bytes

-- the bytes are a file of this image
abbrev pub IsImageFile : List ℕ → Picture → Type 0
IsImageFile bytes picture = IsImage bytes picture
