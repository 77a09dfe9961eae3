use Rattle.change_laws.proofs.PlaceLaws.{images_rise, origins_rise}
use Rattle.change_laws.proofs.places_keep_their_order.Goals as goal

pub returns-clause-images : goal.returns-clause-images
returns-clause-images c = images_rise

pub returns-clause-origins : goal.returns-clause-origins
returns-clause-origins c = origins_rise
