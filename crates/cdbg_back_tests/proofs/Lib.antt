mod AdditionImage
mod CallingImage
