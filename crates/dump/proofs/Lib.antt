pub mod PresentValues
