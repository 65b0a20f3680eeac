pub mod FillingLaws
pub mod ListLaws
pub mod CountLaws
pub mod CallLaws
pub mod SizesLaws
