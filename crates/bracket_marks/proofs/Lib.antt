pub mod KindBits
pub mod LineWalk
pub mod LongestText
pub mod MarkedColumns
pub mod MarksInOrder
pub mod RunColumns
pub mod TextsThatStand
pub mod UsualTexts
